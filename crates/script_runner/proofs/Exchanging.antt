-- Exchanges of a table with cells, and what is to go into one, as acts of a thread.
use Rattle.std.proofs.Common.{◌≡◌, ℕ, ◌<◌, Bool, true, false, cond, ◌&&◌, length, slice_get}
use Rattle.std.proofs.Common.{slice_set, Some, None, Option, option_map, sym, refl, ap, ◌∙◌, subst}
use Rattle.std.proofs.Common.{inl, inr, arith, length-set, set-set}
use Rattle.script_runner.proofs.Prelude
use Prelude.{Acts, AddsEvent, after, as_slot, Block, block_of_held, Came, cell_of_name}
use Prelude.{CellName, copy, DeskNow, Done, Event, ExchangesSlot, FitsSlots, fitting, Form, Got}
use Prelude.{handle, handle_in, Hands, HasHandle, Held, is_of, IsAt, IsSameEvent, IsSeated}
use Prelude.{IsSwapEvent, Kind, kind_at, kind_of_held, LeavesSlot, may_go}
use Prelude.{NumberedHandle, offered, Owner, place_of_held, Plain, plain, pointer_of, shown_slots}
use Prelude.{Site, Slot, slot_by, slot_of, slot_pointer, slot_value, State, state_of, TableNow}
use Prelude.{TellsSlotHeld, Weak, Where}
use Rattle.control_block.specs.CellCalls.{cell_of_site as desk_cell}
use Rattle.control_word.specs.declared.model.event.Cell.TheVariants as named
use Rattle.control_word.specs.declared.model.event.Cell.{Cell as Named}
use Rattle.control_word.specs.declared.model.event.Event.TheVariants as event
use Rattle.control_word.specs.declared.model.handle.Kind.TheVariants as kind
use Rattle.script_runner.proofs.Calling as law
use Rattle.script_runner.proofs.Celled.{IsFound, came_slot, is_found}
use Rattle.script_runner.proofs.Putting.{slice_get-set_same}
use Rattle.script_runner.proofs.Seating as seating
use Rattle.script_runner.proofs.Takings.{copies_taken, weak_nowhere}
use Rattle.script_runner.specs.Calls as calls
use Rattle.script_runner.specs.CellCalls.{ExchangesIn, HoldsIn, OffersIn}
use Rattle.step_table.specs.CellAtomicSteps.{kind_in_state as kind_there}
use Rattle.step_table.specs.Contents as contents
use Rattle.step_threads.specs.Frames.{hand as hand_of}
use Rattle.step_threads.specs.declared.programs.act.Act.TheVariants as act

-- a handle's own kind
pub is_of_own : (h : Held) (k : Kind) → kind_of_held h ≡ k → is_of k (as_slot (Some h)) ≡ true
is_of_own (Owner h) k e = subst (λ q. is_of q (as_slot (Some (Owner h))) ≡ true) e (go h.block)
  where
    go : (b : Option Block) → is_of kind.Owner (slot_by kind.Owner b h.place) ≡ true
    go None = refl
    go (Some b) = refl
is_of_own (Weak w) k e = subst (λ q. is_of q (as_slot (Some (Weak w))) ≡ true) e (go w.block refl)
  where
    go : (b : Option Block) → w.block ≡ b → is_of kind.Weak (slot_by kind.Weak b w.place) ≡ true
    go None none = ap contents.is_null (weak_nowhere w none)
    go (Some b) some = refl

module _ (V : Type 0) where
  swap_made : (c : Named) (new old : NumberedHandle) (s : State) (d : ℕ) → (after {V = V} s d (event.Swap c new old)).made ≡ s.made
  swap_made (named.Free n) new old s d = refl
  swap_made (named.Member o n) new old s d = refl

module _ {V : Type 0} where
  -- what a slot has, as a history names it when the desk's event comes
  pub told_as : (m i : ℕ) (t : TableNow V) (e : DeskNow V) (v : Event V) (adds : AddsEvent t.desk v e) (h : Held) (k : Kind)
      → FitsSlots t.desk t.slots → i < m
      → IsAt t i h → kind_of_held h ≡ k
      → contents.named_handle (calls.state_before_event V adds) k (slot_value (shown_slots m t.slots) i) ≡ handle_in t.desk k (block_of_held h)
      (place_of_held h)
  told_as m i t e v adds h k fits lt at same =
      ap (λ x. contents.named_handle (calls.state_before_event V adds) k x) (seating.shown_at m t.slots i (Some h) lt at) ∙ go (block_of_held h) refl
    where
      go : (b : Option Block) → block_of_held h ≡ b
          → contents.named_handle (calls.state_before_event V adds) k (slot_by (kind_of_held h) b (place_of_held h)) ≡ handle_in t.desk k b
          (place_of_held h)
      go None none = refl
      go (Some b) some =
          (λ j. handle (same j) (Some ((calls.state_before_event V adds).latest b.0)) (place_of_held h))
          ∙ ap (λ o. handle k (Some o) (place_of_held h))
          (law.held_latest t.desk e v adds (kind_of_held h) (place_of_held h) b.0 (seating.has_object t.desk t.slots i h b fits at some))

module _ {V : Type 0} (worth : Form → V) (m i hand : ℕ) (taken : Bool) (t u : TableNow V) (c : CellName) where
  pub exchanges_in : IsSeated m hand t → IsSeated m hand u → i < m → (x : ExchangesSlot t i c u)
      → IsFound t (shown_slots m t.slots) c x.swaps.site
      → (y : Slot) × Acts worth m t taken (act.Exchange i c) (Came y) u
  exchanges_in is then below x found =
      let w = x.swaps in
      let q = kind_at c in
      let within : i < length t.slots = let a = is.many in omega (arith, a, below) in
      let a = x.assigns in
      let free : a.old ≡ None = seating.same_some a.old None (sym a.was ∙ slice_get-set_same t.slots i None within) in
      let went : LeavesSlot x.between t.endings None u.desk u.endings = subst (λ s. LeavesSlot x.between t.endings s u.desk u.endings) free a.leaves in
      let new = handle_in t.desk q (block_of_held w.of) (place_of_held w.of) in
      let v : Event V = event.Swap (desk_cell t.desk w.site) new (handle_in u.desk q (block_of_held x.old) (place_of_held x.old)) in
      let adds : AddsEvent t.desk v u.desk =
      subst (λ d. AddsEvent t.desk (event.Swap (desk_cell t.desk w.site) new (handle_in d q (block_of_held x.old) (place_of_held x.old))) d) (sym went.0)
      w.exchanges in
      let s = calls.state_before_event V adds in
      let l = shown_slots m t.slots in
      let there : slice_get u.slots i ≡ Some (Some x.old) =
      ap (λ ss. slice_get ss i) a.slots
      ∙ slice_get-set_same (slice_set t.slots i None) i (Some x.old) (let b = length-set t.slots i None in omega (arith, b, within)) in
      let has : (b : Block) → block_of_held x.old ≡ Some b → HasHandle u.desk q (place_of_held x.old) b.0 =
      λ b e. subst (λ y. HasHandle u.desk y (place_of_held x.old) b.0) w.kinds.1 (seating.has_object u.desk u.slots i x.old b then.fits there e) in
      let came : as_slot (Some x.old) ≡ slot_of s (handle_in u.desk q (block_of_held x.old) (place_of_held x.old)) =
      ap (λ y. slot_by y (block_of_held x.old) (place_of_held x.old)) w.kinds.1
      ∙ came_slot t.desk u.desk v adds q (place_of_held x.old) (block_of_held x.old)
      (swap_made V (desk_cell t.desk w.site) new (handle_in u.desk q (block_of_held x.old) (place_of_held x.old))) has in
      let kinds : kind_there s (cell_of_name s l c) ≡ q = found.kinds v u.desk adds in
      let makes : IsSwapEvent s l c i (as_slot (Some x.old)) (Some v) = (
        handle_in u.desk q (block_of_held x.old) (place_of_held x.old),
        (λ j. Some (event.Swap (sym (found.named v u.desk adds) j)
            ((sym (ap (λ k. contents.named_handle s k (slot_value l i)) kinds ∙ told_as m i t u.desk v adds w.of q is.fits below w.at w.kinds.0)) j)
            (handle_in u.desk q (block_of_held x.old) (place_of_held x.old)))),
        came,
      ) in
      let may : may_go l c i ≡ true =
      (λ j. found.there j && is_of (kind_at c) (slot_value l i))
      ∙ (ap (λ y. is_of (kind_at c) y) (seating.shown_at m t.slots i (Some w.of) below w.at) ∙ is_of_own w.of (kind_at c) (w.kinds.0)) in (
        as_slot (Some x.old),
        record {
          done = inr (v, adds, subst (λ b. Where b (IsSwapEvent s l c i (as_slot (Some x.old)) (Some v)) (Some v ≡ None)) (sym may) makes);
          slots = ap (shown_slots m) a.slots
              ∙ (seating.shown_set m (slice_set t.slots i None) i (Some x.old)
              ∙ (ap (λ k. slice_set k i (as_slot (Some x.old))) (seating.shown_set m t.slots i None)
              ∙ (set-set l i plain (as_slot (Some x.old))
              ∙ ap (λ b. (cond b (slice_set l i (as_slot (Some x.old))) l)) (sym may))));
          ends = went.1;
        },
      )

  -- a copy that is to go into a cell
  offers_in : i < m → (h : Held) → IsAt t i h → kind_of_held h ≡ kind_at c → (at : Site) → IsFound t (shown_slots m t.slots) c at
      → Acts worth m t taken (act.Share i) Plain u → Acts worth m t taken (act.Offer i c) Plain u
  offers_in lt h is same at found a =
      let l = shown_slots m t.slots in
      let own : is_of (kind_at c) (slot_value l i) ≡ true =
      ap (λ y. is_of (kind_at c) y) (seating.shown_at m t.slots i (Some h) lt is) ∙ is_of_own h (kind_at c) same in
      let fit : fitting (kind_at c) (slot_value l i) ≡ slot_value l i = ap (λ b. cond b (slot_value l i) plain) own in
      let offer : offered l i c ≡ slot_pointer l i =
      ap (λ b. cond b (pointer_of (fitting (kind_at c) (slot_value l i))) None) found.there ∙ ap pointer_of fit in
      record {
        done = as_offer offer a.done;
        slots = a.slots
            ∙ (ap (λ x. slice_set l (hand_of l) x) (sym fit)
            ∙ ap (λ b. (cond {A = Hands} b (slice_set l (hand_of l) (fitting (kind_at c) (slot_value l i)), true) (l, taken)).0) (sym found.there));
        ends = a.ends;
      }
    where
      as_offer : offered (shown_slots m t.slots) i c ≡ slot_pointer (shown_slots m t.slots) i
          → Done worth t.desk (shown_slots m t.slots) (act.Share i) Plain u.desk
          → Done worth t.desk (shown_slots m t.slots) (act.Offer i c) Plain u.desk
      as_offer e (inl x) = inl (x.0, x.1 ∙ ap (λ y. option_map (copy {V = V} (state_of t.desk)) y) (sym e))
      as_offer e (inr x) = inr (x.0, x.1, x.2 ∙ ap (λ y. option_map (copy {V = V} (calls.state_before_event V x.1)) y) (sym e))

  -- a cell is asked whether it holds what a slot has
  holds_in : IsSeated m hand t → i < m → (same : Bool) (x : TellsSlotHeld t c i same u) → IsFound t (shown_slots m t.slots) c x.site
      → Acts worth m t taken (act.Holds i c) (Got same) u
  holds_in is below same x found =
      let q = kind_at c in
      let v : Event V = event.Same (desk_cell t.desk x.site) (handle_in t.desk q (block_of_held x.of) (place_of_held x.of)) same in
      let adds : AddsEvent t.desk v u.desk = x.tells in
      let s = calls.state_before_event V adds in
      let l = shown_slots m t.slots in
      let kinds : kind_there s (cell_of_name s l c) ≡ q = found.kinds v u.desk adds in
      let makes : IsSameEvent s l c i same (Some v) = λ j.
      Some (event.Same (sym (found.named v u.desk adds) j)
      ((sym (ap (λ k. contents.named_handle s k (slot_value l i)) kinds ∙ told_as m i t u.desk v adds x.of q is.fits below x.at x.kind)) j) same) in
      let may : may_go l c i ≡ true =
      (λ j. found.there j && is_of (kind_at c) (slot_value l i))
      ∙ (ap (λ y. is_of (kind_at c) y) (seating.shown_at m t.slots i (Some x.of) below x.at) ∙ is_of_own x.of (kind_at c) (x.kind)) in
      record {
        done = inr (v, adds, subst (λ b. Where b (IsSameEvent s l c i same (Some v)) ((same ≡ false) × (Some v ≡ None))) (sym may) makes);
        slots = ap (shown_slots m) x.rest.0;
        ends = x.rest.1;
      }

module _ {V : Type 0} where
  pub holds : HoldsIn V
  holds worth m i hand taken t u c same is lt in_shape of x =
      holds_in worth m i hand taken t u c is lt same x (is_found m t is.fits is.stands.limits c x.site in_shape of x.is)

  pub exchanges : ExchangesIn V
  exchanges worth m i hand taken t u c is then lt in_shape of x =
      exchanges_in worth m i hand taken t u c is then (let e = is.last in omega (arith, e, lt)) x
      (is_found m t is.fits is.stands.limits c x.swaps.site in_shape of x.swaps.is)

  pub offers : OffersIn V
  offers worth m i hand taken t u c is lt in_shape of there h at same copied =
      offers_in worth m i hand taken t u c lt h at same there.0 (is_found m t is.fits is.stands.limits c there.0 in_shape of there.1)
      (copies_taken worth m i hand taken t u is lt copied)
