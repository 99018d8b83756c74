-- Which calls of a table into the hand are which acts of a thread.
use Rattle.std.proofs.Common.{◌≡◌, ℕ, ◌<◌, Bool, Some, None, Option, option_map, sym, refl, ap}
use Rattle.std.proofs.Common.{◌∙◌, subst, inl, inr, arith}
use Rattle.script_runner.proofs.Prelude
use Prelude.{Acts, aliased, as_slot, Block, copies, copy, DeskNow, Done, Field, Form}
use Prelude.{Handle, Held, IsAt, IsCopy, IsHand, IsOwner, IsQuiet, IsWeak, latest_of, on_latest}
use Prelude.{Owner, owner_slot, Place, place_in, Plain, Shared, shown_slots, slot_by}
use Prelude.{slot_pointer, slot_value, state_of, TableNow, Weak}
use Rattle.control_block.specs.Handles.{IsProper}
use Rattle.control_block.specs.declared.handles.Weak as weak_handle
use Rattle.control_word.specs.declared.model.event.Event.TheVariants as event
use Rattle.control_word.specs.declared.model.handle.Kind.TheVariants as kind
use Rattle.script_runner.proofs.Calling as law
use Rattle.script_runner.proofs.Seating.{Came, came_in, has_pointer, in_hand, no_pointer, quietly}
use Rattle.script_runner.proofs.Seating.{shown_at}
use Rattle.script_runner.specs.TableCalls.{AliasesIn, CopiesIn, DowngradesIn}
use Rattle.shared_handle.specs.Calls as inner
use Rattle.step_table.specs.AtomicSteps.{as_weak}
use Rattle.step_table.specs.Registers.{filled}
use Rattle.step_threads.specs.Rows.{alias_of}
use Rattle.step_threads.specs.declared.programs.act.Act.TheVariants as act

-- an empty weak handle points nowhere
pub weak_nowhere : (w : weak_handle.Weak) → w.block ≡ None → w.place ≡ None
weak_nowhere w none = go w.block none w.proper
  where
    go : (b : Option Block) → b ≡ None → IsProper kind.Weak b w.place → w.place ≡ None
    go None e p = p.1
    go (Some b) e p = absurd cc

module _ {V : Type 0} where
  pub stayed : (d e : DeskNow V) → e ≡ d → IsQuiet d e
  stayed d e is =
      record {
        shape = ap (λ (x : DeskNow V). x.shape) is;
        name = ap (λ (x : DeskNow V). x.name) is;
        seen = ap (λ (x : DeskNow V). x.seen) is;
      }

  pub below_last : (m hand : ℕ) (t : TableNow V) → IsHand m hand t → hand < m
  below_last m hand t is = let e = is.last in omega (arith, e)

module _ {V : Type 0} (worth : Form → V) (m i hand : ℕ) (taken : Bool) (t u : TableNow V) (is : IsHand m hand t) (lt : i < m) where
  copied_owner : (h k : Shared) → IsAt t i (Owner h) → (k.block ≡ h.block) × (k.place ≡ h.place)
      → (b : Option Block) → h.block ≡ b → inner.SharesOwner t.desk b h.place h.place u.desk
      → Done worth t.desk (shown_slots m t.slots) (act.Share i) Plain u.desk
  copied_owner h k at same None e shares =
      let l = shown_slots m t.slots in
      inl (
        quietly t.desk u.desk _ shares,
        subst (λ (x : Option Handle). None ≡ option_map (copy {V = V} (state_of t.desk)) x) (sym (no_pointer m i t (Owner h) lt at e)) refl,
      )
  copied_owner h k at same (Some b) e shares =
      inr (
        event.Share (on_latest t.desk kind.Owner h.place b.0) h.place,
        shares,
        law.copied worth t.desk.name t.desk u.desk (shown_slots m t.slots) i b h.place (has_pointer m i t (Owner h) b is.fits lt at e) shares,
      )

  copied_weak : (h : weak_handle.Weak) → IsAt t i (Weak h)
      → (b : Option Block) → h.block ≡ b → inner.SharesWeakly t.desk b h.place u.desk
      → Done worth t.desk (shown_slots m t.slots) (act.Share i) Plain u.desk
  copied_weak h at None e shares =
      inl (
        quietly t.desk u.desk _ shares,
        subst (λ (x : Option Handle). None ≡ option_map (copy {V = V} (state_of t.desk)) x) (sym (no_pointer m i t (Weak h) lt at e)) refl,
      )
  copied_weak h at (Some b) e shares =
      inr (
        event.WeakShare (latest_of t.desk b.0) h.place,
        shares,
        law.copied_weakly worth t.desk.name t.desk u.desk (shown_slots m t.slots) i b h.place (has_pointer m i t (Weak h) b is.fits lt at e) shares,
      )

  weak_place_is : (w : weak_handle.Weak) → inner.weak_place w.block w.place ≡ w.place
  weak_place_is w = go w.block refl
    where
      go : (b : Option Block) → w.block ≡ b → inner.weak_place b w.place ≡ w.place
      go None e = sym (weak_nowhere w e)
      go (Some b) e = refl

  copies_in : (of : Held) → IsAt t i of → Came (IsCopy of) t hand u → Acts worth m t taken (act.Share i) Plain u
  copies_in (Owner h) at c =
      let k = c.comes.owner in
      let e = c.comes.event in
      record {
        done = copied_owner h k at (e.0, e.1) h.block refl e.2;
        slots = in_hand m hand t u c.handle (slot_value (shown_slots m t.slots) i) is c.slots
            (ap (λ x. as_slot (Some x)) c.comes.is ∙ ((λ j. slot_by kind.Owner (e.0 j) (e.1 j)) ∙ sym (shown_at m t.slots i (Some (Owner h)) lt at)));
        ends = c.ends;
      }
  copies_in (Weak w) at c =
      let k = c.comes.weak in
      let e = c.comes.event in
      record {
        done = copied_weak w at w.block refl e.2;
        slots = in_hand m hand t u c.handle (slot_value (shown_slots m t.slots) i) is c.slots
            (ap (λ x. as_slot (Some x)) c.comes.is
            ∙ ((λ j. slot_by kind.Weak (e.0 j) ((e.1 ∙ weak_place_is w) j)) ∙ sym (shown_at m t.slots i (Some (Weak w)) lt at)));
        ends = c.ends;
      }

  downgraded_done : (h : Shared) → IsAt t i (Owner h) → (b : Option Block) → h.block ≡ b → inner.SharesWeakly t.desk b h.place u.desk
      → Done worth t.desk (shown_slots m t.slots) (act.Downgrade i) Plain u.desk
  downgraded_done h at None e shares =
      inl (
        quietly t.desk u.desk _ shares,
        subst (λ (x : Option Handle). None ≡ option_map (λ (y : Handle). copies {V = V} (state_of t.desk) kind.Weak y.place y) x)
            (sym (no_pointer m i t (Owner h) lt at e)) refl,
      )
  downgraded_done h at (Some b) e shares =
      inr (
        event.WeakShare (latest_of t.desk b.0) h.place,
        shares,
        law.downgraded worth t.desk.name t.desk u.desk (shown_slots m t.slots) i b h.place (has_pointer m i t (Owner h) b is.fits lt at e) shares,
      )

  downgraded_slot : (h : Shared) → IsAt t i (Owner h) → (b : Option Block) → h.block ≡ b
      → slot_by kind.Weak b (inner.weak_place b h.place) ≡ filled (option_map as_weak (slot_pointer (shown_slots m t.slots) i))
  downgraded_slot h at None e = ap (λ x. filled (option_map as_weak x)) (sym (no_pointer m i t (Owner h) lt at e))
  downgraded_slot h at (Some b) e =
      ap (λ x. filled (option_map as_weak x)) (sym (has_pointer m i t (Owner h) b is.fits lt at e).at)

  downgrades_in : (h : Shared) → IsAt t i (Owner h)
      → Came (IsWeak (λ d k e. (k.block ≡ h.block) × (k.place ≡ inner.weak_place h.block h.place) × inner.SharesWeakly d h.block h.place e)) t hand u
      → Acts worth m t taken (act.Downgrade i) Plain u
  downgrades_in h at c =
      let e = c.comes.event in
      record {
        done = downgraded_done h at h.block refl e.2;
        slots = in_hand m hand t u c.handle _ is c.slots
            (ap (λ x. as_slot (Some x)) c.comes.is ∙ ((λ j. slot_by kind.Weak (e.0 j) (e.1 j)) ∙ downgraded_slot h at h.block refl));
        ends = c.ends;
      }

  -- the aliasing constructor
  aliased_done : (h : Shared) (j : ℕ) (field : Option Field) → IsAt t i (Owner h) → (b : Option Block) → h.block ≡ b
      → inner.SharesOwner t.desk b h.place (aliased field (place_in (shown_slots m t.slots) j)) u.desk
      → Done worth t.desk (shown_slots m t.slots) (act.Alias i j field) Plain u.desk
  aliased_done h j field at None e shares =
      let r = aliased field (place_in (shown_slots m t.slots) j) in
      inl (
        quietly t.desk u.desk _ shares,
        subst (λ (x : Option Handle). None ≡ option_map (copies {V = V} (state_of t.desk) kind.Owner r) (owner_slot x))
            (sym (no_pointer m i t (Owner h) lt at e)) refl,
      )
  aliased_done h j field at (Some b) e shares =
      inr (
        event.Share (on_latest t.desk kind.Owner h.place b.0) (aliased field (place_in (shown_slots m t.slots) j)),
        shares,
        law.aliased_to worth t.desk.name t.desk u.desk (shown_slots m t.slots) i j field b h.place (has_pointer m i t (Owner h) b is.fits lt at e) shares,
      )

  aliased_slot : (h : Shared) (r : Option Place) → IsAt t i (Owner h) → (b : Option Block) → h.block ≡ b
      → slot_by kind.Owner b r ≡ alias_of r (owner_slot (slot_pointer (shown_slots m t.slots) i))
  aliased_slot h r at None e = ap (λ x. alias_of r (owner_slot x)) (sym (no_pointer m i t (Owner h) lt at e))
  aliased_slot h r at (Some b) e = ap (λ x. alias_of r (owner_slot x)) (sym (has_pointer m i t (Owner h) b is.fits lt at e).at)

  aliases_in : (h : Shared) (j : ℕ) (field : Option Field) → IsAt t i (Owner h)
      → let r = aliased field (place_in (shown_slots m t.slots) j) in
      Came (IsOwner (λ d k e. (k.block ≡ h.block) × (k.place ≡ r) × inner.SharesOwner d h.block h.place r e)) t hand u
      → Acts worth m t taken (act.Alias i j field) Plain u
  aliases_in h j field at c =
      let e = c.comes.event in
      record {
        done = aliased_done h j field at h.block refl e.2;
        slots = in_hand m hand t u c.handle _ is c.slots
            (ap (λ x. as_slot (Some x)) c.comes.is
            ∙ ((λ q. slot_by kind.Owner (e.0 q) (e.1 q)) ∙ aliased_slot h (aliased field (place_in (shown_slots m t.slots) j)) at h.block refl));
        ends = c.ends;
      }

module _ {V : Type 0} where
  pub copies_taken : CopiesIn V
  copies_taken worth m i hand taken t u is lt c =
      copies_in worth m i hand taken t u is lt c.of c.at (came_in (IsCopy c.of) t hand u is.vacant c.copy)

  pub downgrades : DowngradesIn V
  downgrades worth m i hand taken t u is lt c =
      downgrades_in worth m i hand taken t u is lt c.of c.at (came_in _ t hand u is.vacant c.weak)

  pub aliases : AliasesIn V
  aliases worth m i hand taken t u is lt j field c =
      aliases_in worth m i hand taken t u is lt c.of j field c.at (came_in _ t hand u is.vacant c.copy)
