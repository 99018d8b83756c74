-- Calls of a table on cells, as acts of a thread.
use Rattle.std.proofs.Common.{◌≡◌, ℕ, ◌+◌, ◌<◌, ◌≤◌, Bool, true, cond, [], ◌∷◌, ◌++◌}
use Rattle.std.proofs.Common.{nat_lt, ◌==◌, slice_get, slice_set, Some, None, Option, sym, refl}
use Rattle.std.proofs.Common.{ap, ◌∙◌, subst, inr, arith, le-ltb, lt-ltb, eq-eqb}
use Rattle.script_runner.proofs.Prelude
use Prelude.{Acts, AddsEvent, after, as_slot, Block, block_kept, block_of_held, Came}
use Prelude.{cell_of_name, CellName, cond-false, cond-true, DeskNow, entry, Event, FitsSlots, Form}
use Prelude.{Handle, handle_in, Hands, HasHandle, inside, is_full, is_there, IsCellAtSite, IsHand}
use Prelude.{IsIn, IsLegal, IsLoadEvent, IsOfName, IsSeated, Kind, kind_at}
use Prelude.{kind_of_held, latest_of, leads, Name, on, opening_of, Owner, Place, place_of_held}
use Prelude.{shown_held, shown_slots, Site, Slot, slot_by, slot_of, slot_pointer, Slots, sound}
use Prelude.{State, state_of, TableNow, Where}
use Rattle.control_block.proofs.CellWords.{shared_led}
use Rattle.control_block.specs.CellCalls.{cell_of_site as desk_cell}
use Rattle.control_word.specs.declared.site.Site.TheVariants as site
use Rattle.control_word.proofs.history.Kept.{owners_led}
use Rattle.control_word.specs.Layout.{IsWithinLimits}
use Rattle.control_word.specs.State.{kind_of_free, kind_of_member}
use Rattle.control_word.specs.declared.model.event.Cell.TheVariants as named
use Rattle.control_word.specs.declared.model.event.Event.TheVariants as event
use Rattle.control_word.specs.declared.model.handle.Kind.TheVariants as kind
use Rattle.script_runner.specs.Cells.{OwnsInto}
use Rattle.script_runner.proofs.Calling as law
use Rattle.script_runner.proofs.CellSites.{member_kind}
use Rattle.script_runner.proofs.Putting.{slice_get-set_same}
use Rattle.script_runner.proofs.Seating as seating
use Rattle.script_runner.specs.Calls as calls
use Rattle.script_runner.specs.CellCalls.{LoadsIn}
use Rattle.step_table.specs.CellAtomicSteps.{cell_in, kind_in_state as kind_there}
use Rattle.step_table.specs.Registers.{into}
use Rattle.step_table.specs.declared.slots.slot.Slot.TheVariants.{Full}
use Rattle.step_threads.specs.Frames.{block_at, hand as hand_of}
use Rattle.step_threads.specs.declared.programs.act.Act.TheVariants as act
use Rattle.step_threads.specs.declared.programs.call.CellName.TheVariants as cell

few_kind : (m n : ℕ) → n < m → kind.Owner ≡ kind_of_free m n
few_kind m n lt = sym (cond-true (nat_lt n m) kind.Owner kind.Weak (lt-ltb n m lt))

past_kind : (m n : ℕ) → kind.Weak ≡ kind_of_free m (m + n)
past_kind m n = sym (cond-false (nat_lt (m + n) m) kind.Owner kind.Weak (le-ltb (m + n) m (omega arith)))

module _ {V : Type 0} where
  -- no object comes or goes by a step on a cell, and each keeps its block
  abbrev pub KeepsMade : Event V → Type 0
  KeepsMade v = (s : State) (d : ℕ) → (after s d v).made ≡ s.made

  -- what a handle is on keeps its block by such a step
  block_held : (d e : DeskNow V) (v : Event V) (adds : AddsEvent d v e) (k : Kind) (p : Option Place) (b : ℕ) → KeepsMade v
      → HasHandle e k p b → ((calls.state_before_event V adds).object (latest_of e b)).block ≡ b
  block_held d e v adds k p b keeps has =
      let z = opening_of d.shape in
      let h = adds.between ++ d.seen in
      let q = latest_of e b in
      let se : state_of e ≡ leads z (entry d.name v ∷ h) = ap (λ y. leads (opening_of y) e.seen) adds.same.1 ∙ ap (λ l. leads z l) adds.seen in
      let legal : IsLegal (opening_of e.shape) e.seen = subst (λ y. IsLegal (opening_of y) e.seen) (sym adds.same.1) adds.legal in
      let there = (shown_held (opening_of e.shape) e.seen e.name k p b legal has).1 in
      let most = (sound (opening_of e.shape) e.seen legal).latest_made b in
      let made : q ≤ (leads z h).made = subst (λ n. q ≤ n) (ap (λ (s : State). s.made) se ∙ keeps (leads z h) d.name) most in
      let kept = (block_kept z (entry d.name v ∷ []) h q made).0 in
      sym kept ∙ (ap (λ (s : State). (s.object q).block) (sym se) ∙ there)

  -- the slot that has what came out of a cell
  pub came_slot : (d e : DeskNow V) (v : Event V) (adds : AddsEvent d v e) (k : Kind) (p : Option Place) (b : Option Block) → KeepsMade v
      → ((c : Block) → b ≡ Some c → HasHandle e k p c.0)
      → slot_by k b p ≡ slot_of (calls.state_before_event V adds) (handle_in e k b p)
  came_slot d e v adds k p None keeps has = refl
  came_slot d e v adds k p (Some c) keeps has =
      ap (λ n. Full (record { kind = k; block = record { 0 = n }; place = p })) (sym (block_held d e v adds k p c.0 keeps (has c refl)))

  -- a cell of the thread's
  pub record IsFound (t : TableNow V) (l : Slots) (c : CellName) (at : Site) : Type 0 where
    pub there : is_there l c ≡ true
    pub named : (v : Event V) (e : DeskNow V) (adds : AddsEvent t.desk v e)
        → cell_in (calls.state_before_event V adds) (cell_of_name (calls.state_before_event V adds) l c) ≡ desk_cell t.desk at
    pub kinds : (v : Event V) (e : DeskNow V) (adds : AddsEvent t.desk v e)
        → kind_there (calls.state_before_event V adds) (cell_of_name (calls.state_before_event V adds) l c) ≡ kind_at c

  module _ (m : ℕ) (t : TableNow V) (fits : FitsSlots t.desk t.slots) (limits : IsWithinLimits t.desk.shape) where
    of_member : (k : ℕ) (n : ℕ) (name : Name) → name.0 ≡ k → n < 3 → k < m → (at : Site) (b : Block) → OwnsInto t.slots k b → at ≡ site.Member b n
        → IsFound t (shown_slots m t.slots) (cell.Member name n) at
    of_member k n name is low lt at b owns place =
        let h = Owner owns.owner in
        let has = seating.has_pointer m k t h b fits lt owns.at owns.into.owns in
        let q : owns.owner.place ≡ Some owns.into.place = owns.into.points.0 in
        let inside_is : inside (slot_pointer (shown_slots m t.slots) name.0) ≡ Some (calls.pointer kind.Owner b owns.owner.place) =
        ap (λ j. inside (slot_pointer (shown_slots m t.slots) j)) is
        ∙ (ap inside has.at ∙ (ap (into (calls.pointer kind.Owner b owns.owner.place)) q
        ∙ cond-true (owns.into.place.block.0 == b.0) _ None (eq-eqb owns.into.place.block.0 b.0 (ap (λ (x : Block). x.0) owns.into.points.1)))) in
        let block : block_at (shown_slots m t.slots) name.0 ≡ b = ap (λ y. on (λ (x : Handle). x.block) (record { 0 = 0 }) y) inside_is in
        record {
          there = ap is_full inside_is;
          named = λ v e adds. ap (λ (x : Block). named.Member ((calls.state_before_event V adds).latest x.0) n) block
              ∙ (ap (λ o. named.Member o n) (law.held_latest t.desk e v adds kind.Owner owns.owner.place b.0 has.has) ∙ ap (desk_cell t.desk) (sym place));
          kinds = λ v e adds. ap (λ z. kind_of_member z n) (owners_led (opening_of t.desk.shape) (adds.between ++ t.desk.seen))
              ∙ sym (member_kind t.desk.shape.owners n limits.members.0 low);
        }

    pub is_found : (c : CellName) (at : Site) → IsIn t.desk.shape c → IsOfName m c → IsCellAtSite t.desk.shape t.slots c at
        → IsFound t (shown_slots m t.slots) c at
    is_found (cell.Shared n) at lt of is =
        record {
          there = refl;
          named = λ v e adds. ap (desk_cell t.desk) (sym is.1);
          kinds = λ v e adds. ap (λ z. kind_of_free z n) (shared_led (opening_of t.desk.shape) (adds.between ++ t.desk.seen))
              ∙ sym (few_kind t.desk.shape.shared_cells n is.0);
        }
    is_found (cell.Weak n) at lt of is =
        record {
          there = refl;
          named = λ v e adds. ap (λ z. named.Free (z + n)) (shared_led (opening_of t.desk.shape) (adds.between ++ t.desk.seen))
              ∙ ap (desk_cell t.desk) (sym is.1);
          kinds = λ v e adds. (λ i. kind_of_free (shared_led (opening_of t.desk.shape) (adds.between ++ t.desk.seen) i)
              (shared_led (opening_of t.desk.shape) (adds.between ++ t.desk.seen) i + n)) ∙ sym (past_kind t.desk.shape.shared_cells n);
        }
    is_found (cell.Member name n) at lt of is = of_member name.0 n name refl lt of at is.0 is.1 is.2

module _ {V : Type 0} (worth : Form → V) (m hand : ℕ) (taken : Bool) (t u : TableNow V) (c : CellName) where
  -- what the cell holds came into the hand
  loads_in : IsHand m hand t → IsSeated m hand u → (at : Site) → IsFound t (shown_slots m t.slots) c at
      → seating.Came (λ d h e. (kind_of_held h ≡ kind_at c)
      × AddsEvent d (event.Load (desk_cell d at) (handle_in e (kind_at c) (block_of_held h) (place_of_held h))) e) t hand u
      → (x : Slot) × Acts worth m t taken (act.Load c) (Came x) u
  loads_in is then at found k =
      let h = k.handle in
      let q = kind_at c in
      let adds = k.comes.1 in
      let v : Event V = event.Load (desk_cell t.desk at) (handle_in u.desk q (block_of_held h) (place_of_held h)) in
      let s = calls.state_before_event V adds in
      let there : slice_get u.slots hand ≡ Some (Some h) =
      ap (λ ss. slice_get ss hand) k.slots ∙ slice_get-set_same t.slots hand (Some h) (let a = is.many in let b = is.last in omega (arith, a, b)) in
      let has : (b : Block) → block_of_held h ≡ Some b → HasHandle u.desk q (place_of_held h) b.0 =
      λ b e. subst (λ y. HasHandle u.desk y (place_of_held h) b.0) k.comes.0 (seating.has_object u.desk u.slots hand h b then.fits there e) in
      let came : as_slot (Some h) ≡ slot_of s (handle_in u.desk q (block_of_held h) (place_of_held h)) =
      ap (λ y. slot_by y (block_of_held h) (place_of_held h)) k.comes.0 ∙ came_slot t.desk u.desk v adds q (place_of_held h) (block_of_held h)
      (λ s d. refl) has in
      let makes : IsLoadEvent s (shown_slots m t.slots) c (as_slot (Some h)) (Some v) = (
        handle_in u.desk q (block_of_held h) (place_of_held h),
        ap (λ y. Some (event.Load y (handle_in u.desk q (block_of_held h) (place_of_held h)))) (sym (found.named v u.desk adds)),
        came,
      ) in (
        as_slot (Some h),
        record {
          done = inr (
            v,
            adds,
            subst (λ b. Where b (IsLoadEvent s (shown_slots m t.slots) c (as_slot (Some h)) (Some v)) (Some v ≡ None))
                (sym found.there) makes,
          );
          slots = seating.in_hand m hand t u h (as_slot (Some h)) is k.slots refl
              ∙ ap (λ b. (cond {A = Hands} b (slice_set (shown_slots m t.slots) (hand_of (shown_slots m t.slots)) (as_slot (Some h)), true)
              (shown_slots m t.slots, taken)).0) (sym found.there);
          ends = k.ends;
        },
      )

module _ {V : Type 0} where
  pub loads : LoadsIn V
  loads worth m hand taken t u c is then in_shape of l =
      loads_in worth m hand taken t u c is then l.site (is_found m t is.fits is.stands.limits c l.site in_shape of l.is)
      (seating.came_in _ t hand u is.vacant l.loads)
