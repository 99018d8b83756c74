-- Which calls of a table by which a handle leaves are which acts of a thread.
use Rattle.std.proofs.Common.{◌≡◌, ℕ, Bool, true, false, List, ◌∷◌, ◌++◌, Some, None, Option, sym}
use Rattle.std.proofs.Common.{refl, ap, ◌∙◌, subst, inl, inr}
use Rattle.script_runner.proofs.Prelude
use Prelude.{Act, AddsEvent, Begun, Block, block_of_held, calls_keep_latest, DeskNow, Done, Ended}
use Prelude.{entry, Event, Form, Gone, Handle, handle, HasHandle, Held, IsLeaveEvent, IsLeft}
use Prelude.{IsLegal, IsToldEnding, Kind, kind_of_held, latest_of, leads, LeavesSlot, legal_seen}
use Prelude.{LetsGo, names_an_object, object_in, on_latest, opening_of, Owner, piled, Place}
use Prelude.{place_of_held, remains, Shared, shown_held, slot_pointer, Slots, State, state_of}
use Prelude.{stays_as_made, Weak}
use Rattle.control_block.specs.declared.handles.Weak as weak_handle
use Rattle.control_word.specs.declared.model.event.Event.TheVariants as event
use Rattle.control_word.specs.declared.model.handle.Kind.TheVariants as kind
use Rattle.script_runner.specs.Tables as table
use Rattle.script_runner.proofs.Calling as law
use Rattle.script_runner.proofs.Seating.{quietly}
use Rattle.script_runner.specs.Calls as calls
use Rattle.shared_handle.specs.Calls as inner
use Rattle.shared_handle.specs.declared.endings.Ending.{Ending}
use Rattle.shared_handle.specs.declared.endings.Left.TheVariants as left
use Rattle.shared_handle.specs.declared.endings.Left.{Left}
use Rattle.step_threads.specs.Rows as rows

module _ {V : Type 0} where
  -- what an object is made as is told alike after the desk's call
  pub remains_kept : (d e : DeskNow V) (v : Event V) (adds : AddsEvent d v e) (k : Kind) (p : Option Place) (b : ℕ) → HasHandle d k p b
      → remains (object_in d b) ≡ remains (object_in e b)
  remains_kept d e v adds k p b has =
      let z = opening_of d.shape in
      let h = entry d.name v ∷ (adds.between ++ d.seen) in
      let legal = subst (IsLegal z) adds.seen adds.legal in
      let old = legal_seen z adds.between d.seen legal.0 in
      let o = latest_of d b in
      let mine = shown_held z d.seen d.name k p b old has in
      let was = (names_an_object z d.seen old d.name k (handle k (Some o) p) (mine.0, refl, refl)).1 in
      let t = stays_as_made z (entry d.name v ∷ adds.between) d.seen o was in
      let se : state_of e ≡ leads z h = ap (λ x. leads (opening_of x) e.seen) adds.same.1 ∙ ap (λ l. leads z l) adds.seen in
      let last : (state_of e).latest b ≡ o = calls_keep_latest d v e adds k p b has in
      let x : object_in e b ≡ (leads z h).object o =
      ap (λ q. (state_of e).object q) last ∙ ap (λ (s : State). s.object o) se in
      law.same_remains (object_in d b) (object_in e b) (sym (ap (λ y. y.fields) x ∙ t.1)) (sym (ap (λ y. y.null) x ∙ t.3))

module _ {V : Type 0} (worth : Form → V) (d e : DeskNow V) (l : Slots) (a : Act) (i : ℕ) (xs ys : List (Ending V)) (at : calls.IsLeaveOf a l i) where
  -- an act that leaves what slot i has
  pub record LeavesAs : Type 0 where
    pub last : Bool
    pub left : Option Ended
    pub done : Done worth d l a (rows.Left last left) e
    pub ends : Begun xs (rows.ending_by last (slot_pointer l i)) ys
    pub told : IsToldEnding xs left e ys

  none_left : (n : ℕ) → e ≡ inner.counting n d → slot_pointer l i ≡ None → ys ≡ xs → LeavesAs
  none_left n is none same =
      record {
        last = false;
        left = None;
        done = inl (
          quietly d e n is,
          law.by_slot worth (state_of d) d.name l a i false None None at
              (subst (λ (x : Option Handle). IsLeaveEvent {V = V} (state_of d) x false None None) (sym none) (refl, refl, refl)),
        );
        ends = subst (λ (x : Option Handle). Begun xs (rows.ending_by false x) ys) (sym none) same;
        told = same;
      }

  owner_left : (h : Shared) (gone : Gone) → ((b : Block) → h.block ≡ Some b → calls.HasPointer V d l i kind.Owner b h.place)
      → (h.block ≡ None → slot_pointer l i ≡ None) → (y : Left V) → IsLeft d h.block h.place y e → ys ≡ piled xs y → LeavesAs
  owner_left h gone full none left.Empty leaves are = none_left _ leaves.1 (none leaves.0) are
  owner_left h gone full none left.Others leaves are =
      let c = leaves.0 in
      let has = full c leaves.1 in
      record {
        last = false;
        left = None;
        done = inr (
          event.Leave (on_latest d kind.Owner h.place c.0) false,
          leaves.2,
          law.gone worth d.name d e l a i false c h.place at has leaves.2,
        );
        ends = subst (λ (x : Option Handle). Begun xs (rows.ending_by false x) ys) (sym has.at) are;
        told = are;
      }
  owner_left h gone full none (left.Last x) leaves are =
      let has = full x.block leaves.0 in
      record {
        last = true;
        left = Some (remains (object_in d x.block.0));
        done = inr (
          event.Leave (on_latest d kind.Owner h.place x.block.0) true,
          leaves.1,
          law.gone worth d.name d e l a i true x.block h.place at has leaves.1,
        );
        ends = subst (λ (y : Option Handle). Begun xs (rows.ending_by true y) ys) (sym has.at) (x, are, refl, leaves.3);
        told = (x, are, remains_kept d e _ leaves.1 kind.Owner h.place x.block.0 has.has);
      }

  begun_not : (vacant : Bool) (x : Handle) → x.kind ≡ kind.Weak → ys ≡ xs → Begun xs (rows.ending_by vacant (Some x)) ys
  begun_not false x w same = same
  begun_not true x w same = subst (λ k. Begun xs (rows.ending_as k x) ys) (sym w) same

  weak_left : (w : weak_handle.Weak) → ((b : Block) → w.block ≡ Some b → calls.HasPointer V d l i kind.Weak b w.place)
      → (w.block ≡ None → slot_pointer l i ≡ None) → (vacant : Bool) → ys ≡ xs
      → (b : Option Block) → w.block ≡ b → inner.LeavesWeakly d b w.place vacant e → LeavesAs
  weak_left w full none vacant same None is leaves = none_left _ leaves.0 (none is) same
  weak_left w full none vacant same (Some b) is leaves =
      let has = full b is in
      record {
        last = vacant;
        left = None;
        done = inr (
          event.WeakLeave (on_latest d kind.Weak w.place b.0) vacant,
          leaves,
          law.gone_weakly worth d.name d e l a i vacant b w.place at has leaves,
        );
        ends = subst (λ (x : Option Handle). Begun xs (rows.ending_by vacant x) ys) (sym has.at)
            (begun_not vacant (calls.pointer kind.Weak b w.place) refl same);
        told = same;
      }

  pub handle_left : (h : Held) (gone : Gone) → ((b : Block) → block_of_held h ≡ Some b → calls.HasPointer V d l i (kind_of_held h) b (place_of_held h))
      → (block_of_held h ≡ None → slot_pointer l i ≡ None) → LetsGo d xs h gone e ys → LeavesAs
  handle_left (Owner h) gone full none drops = owner_left h gone full none drops.left drops.leaves drops.are
  handle_left (Weak w) gone full none leaves = weak_left w full none leaves.2.0 leaves.1 w.block refl leaves.2.1

  pub slot_left : (s : table.Slot)
      → ((h : Held) (b : Block) → s ≡ Some h → block_of_held h ≡ Some b → calls.HasPointer V d l i (kind_of_held h) b (place_of_held h))
      → ((h : Held) → s ≡ Some h → block_of_held h ≡ None → slot_pointer l i ≡ None) → (s ≡ None → slot_pointer l i ≡ None)
      → LeavesSlot d xs s e ys → LeavesAs
  slot_left None full none vacant leaves = none_left d.held leaves.0 (vacant refl) leaves.1
  slot_left (Some h) full none vacant leaves = handle_left h leaves.0 (λ b. full h b refl) (none h refl) leaves.1
