-- Pointers that an object gives of itself, and what pointers tell by their values, as acts of a thread.
use Rattle.std.proofs.Common.{◌≡◌, ℕ, ◌<◌, Bool, true, nat_lt, slice_set, Some, None, Option}
use Rattle.std.proofs.Common.{option_map, sym, refl, ap, ◌∙◌, subst, inl, inr}
use Rattle.script_runner.proofs.Prelude
use Prelude.{Acts, AddsEvent, AreInOrder, Block, block_of_held, blocks_of, DeskNow, Form, Got}
use Prelude.{handle, handle_of, Held, IsAt, IsHand, IsSeated, Kind, kind_of_held, latest_of}
use Prelude.{MarksAct, object_in, on, on_latest, opening_of, Owner, Place, place_at, place_of_held}
use Prelude.{PointAlike, Question, row, Shared, shown_held, shown_slots, slot_by, slot_pointer}
use Prelude.{state_of, TableNow, taking, this_as, Weak}
use Rattle.control_block.specs.declared.handles.Weak as weak_handle
use Rattle.control_word.specs.Handles.{empty, rank, same_place}
use Rattle.control_word.specs.declared.model.event.Event.TheVariants as event
use Rattle.control_word.specs.declared.model.handle.Kind.TheVariants as kind
use Rattle.script_runner.specs.SlotCalls.{PointsTo}
use Rattle.script_runner.specs.This.{SharesThis, SharesThisWeakly}
use Rattle.script_runner.proofs.Calling as law
use Rattle.script_runner.proofs.Looking.{place_shown, within}
use Rattle.script_runner.proofs.Seating.{has_pointer, no_pointer, came_in, in_hand, same_some}
use Rattle.script_runner.proofs.Takings.{stayed}
use Rattle.shared_handle.specs.Calls as inner
use Rattle.shared_handle.specs.Endings.{MayGiveThis}
use Rattle.step_threads.specs.Frames.{hand as hand_of}
use Rattle.step_threads.specs.AbstractStates.{answers_order}
use Rattle.step_threads.specs.declared.programs.act.Act.TheVariants as act
use Rattle.step_threads.specs.declared.programs.act.Question.TheVariants as question
use Rattle.step_threads.specs.declared.said.Answer.TheVariants as answer

-- an object that gives one, as an owner that points into it
may_within : {V : Type 0} (d : DeskNow V) (h : Shared) (b : Option Block) → h.block ≡ b → MayGiveThis d b h.place
    → (q : Place) × (h.block ≡ Some q.block) × (h.place ≡ Some q) × ((object_in d q.block.0).enabled ≡ true)
may_within d h None is may = absurd may
may_within d h (Some c) is may =
    let w = may.1 in
    (w.0, is ∙ w.2, w.1, subst (λ (x : Block). (object_in d x.0).enabled ≡ true) (same_some c w.0.block w.2) may.2)

module _ {V : Type 0} (worth : Form → V) (m i hand : ℕ) (taken : Bool) (t u : TableNow V) (is : IsHand m hand t) (lt : i < m) where
  seated : IsSeated m hand t
  seated = record { fits = is.fits; stands = is.stands; many = is.many; last = is.last }

  this_slot : (k : Kind) (h : Shared) (q : Place) → IsAt t i (Owner h) → h.block ≡ Some q.block → h.place ≡ Some q
      → slice_set (shown_slots m t.slots) (hand_of (shown_slots m t.slots)) (slot_by k (Some q.block) (place_at q.block.0))
      ≡ (row (act.FromThis i k) (shown_slots m t.slots) taken (Got true)).slots
  this_slot k h q at b p =
      ap (λ x. (taking (shown_slots m t.slots) true (option_map (this_as k) x)).0)
      (sym (law.is_inside (shown_slots m t.slots) i q (within worth m i hand taken t t seated lt h q at b p).at))

  gives_this : (of k : Shared) (q : Place) → IsAt t i (Owner of) → of.block ≡ Some q.block → of.place ≡ Some q
      → (object_in t.desk q.block.0).enabled ≡ true → k.block ≡ of.block → inner.IsOfThis k.block k.place
      → inner.SharesOwner t.desk of.block of.place k.place u.desk
      → u.slots ≡ slice_set t.slots hand (Some (Owner k)) → u.endings ≡ t.endings
      → Acts worth m t taken (act.FromThis i kind.Owner) (Got true) u
  gives_this of k q at b p on same this shares set ends =
      let block : k.block ≡ Some q.block = same ∙ b in
      let place : k.place ≡ place_at q.block.0 = subst (λ x. inner.IsOfThis x k.place) block this in
      let adds : AddsEvent t.desk (event.Share (on_latest t.desk kind.Owner (Some q) q.block.0) (place_at q.block.0)) u.desk =
      subst (λ x. inner.SharesOwner t.desk x (Some q) (place_at q.block.0) u.desk) b
      (subst (λ x. inner.SharesOwner t.desk of.block x (place_at q.block.0) u.desk) p
      (subst (λ x. inner.SharesOwner t.desk of.block of.place x u.desk) place shares)) in
      record {
        done = inr (
          _,
          adds,
          law.given_this worth t.desk.name t.desk u.desk (shown_slots m t.slots) i q (within worth m i hand taken t u seated lt of q at b p) on adds,
        );
        slots = in_hand m hand t u (Owner k) _ is set (λ j. slot_by kind.Owner (block j) (place j)) ∙ this_slot kind.Owner of q at b p;
        ends = ends;
      }

  gives_weak_this : (of : Shared) (k : weak_handle.Weak) (q : Place) → IsAt t i (Owner of) → of.block ≡ Some q.block → of.place ≡ Some q
      → (object_in t.desk q.block.0).enabled ≡ true → k.block ≡ of.block → inner.IsOfThis k.block k.place
      → inner.SharesWeakly t.desk k.block k.place u.desk
      → u.slots ≡ slice_set t.slots hand (Some (Weak k)) → u.endings ≡ t.endings
      → Acts worth m t taken (act.FromThis i kind.Weak) (Got true) u
  gives_weak_this of k q at b p on same this shares set ends =
      let block : k.block ≡ Some q.block = same ∙ b in
      let place : k.place ≡ place_at q.block.0 = subst (λ x. inner.IsOfThis x k.place) block this in
      let adds : AddsEvent t.desk (event.WeakShare (latest_of t.desk q.block.0) (place_at q.block.0)) u.desk =
      subst (λ x. inner.SharesWeakly t.desk x (place_at q.block.0) u.desk) block
      (subst (λ x. inner.SharesWeakly t.desk k.block x u.desk) place shares) in
      record {
        done = inr (
          _,
          adds,
          law.given_weak_this worth t.desk.name t.desk u.desk (shown_slots m t.slots) i q (within worth m i hand taken t u seated lt of q at b p) on adds,
        );
        slots = in_hand m hand t u (Weak k) _ is set (λ j. slot_by kind.Weak (block j) (place j)) ∙ this_slot kind.Weak of q at b p;
        ends = ends;
      }

  -- a pointer that an object gives to itself
  pub shares_this : SharesThis t i hand u → Acts worth m t taken (act.FromThis i kind.Owner) (Got true) u
  shares_this c =
      let w = may_within t.desk c.of c.of.block refl c.may in
      let k = came_in _ t hand u is.vacant c.this in
      let e = k.comes.event in
      gives_this c.of k.comes.owner w.0 c.at w.1 w.2 w.3 e.0 e.1 e.2 (k.slots ∙ ap (λ x. slice_set t.slots hand (Some x)) k.comes.is) k.ends

  pub shares_this_weakly : SharesThisWeakly t i hand u → Acts worth m t taken (act.FromThis i kind.Weak) (Got true) u
  shares_this_weakly c =
      let w = may_within t.desk c.of c.of.block refl c.may in
      let k = came_in _ t hand u is.vacant c.this in
      let e = k.comes.event in
      gives_weak_this c.of k.comes.weak w.0 c.at w.1 w.2 w.3 e.0 e.1 e.2 (k.slots ∙ ap (λ x. slice_set t.slots hand (Some x)) k.comes.is) k.ends

module _ {V : Type 0} (worth : Form → V) (m i j hand : ℕ) (taken : Bool) (t : TableNow V) (is : IsSeated m hand t) (lt : i < m) (less : j < m) where
  asked_mark : (q : Question) (b : Bool) → b ≡ answers_order (state_of t.desk) (shown_slots m t.slots) q → Acts worth m t taken (act.Ask q) (Got b) t
  asked_mark q b so = record { done = inl (stayed t.desk t.desk refl, (so, refl)); slots = refl; ends = refl }

  -- where a pointer points
  pub places : (p : Option Place) → PointsTo t i p → MarksAct V worth m t taken (act.Ask (question.Place i)) (Got true) (answer.Place p)
  places p c = record {
    acts = asked_mark (question.Place i) true refl;
    says = ap (λ x. Some (answer.Place x)) (place_shown m i t (Owner c.0) lt c.1 ∙ sym c.2);
  }

  -- whether two point at one place
  pub alike : (b : Bool) → PointAlike t i j b → MarksAct V worth m t taken (act.Ask (question.Same i j)) (Got true) (answer.Same b)
  alike b c = record {
    acts = asked_mark (question.Same i j) true refl;
    says = ap (λ x. Some (answer.Same x))
        ((λ k. same_place (place_shown m i t (Owner c.one) lt c.at.0 k) (place_shown m j t (Owner c.other) less c.at.1 k)) ∙ sym c.told);
  }

  ranked : (k : ℕ) (h : Held) → k < m → IsAt t k h
      → rank (blocks_of (state_of t.desk)) (on (handle_of (state_of t.desk)) (empty kind.Owner) (slot_pointer (shown_slots m t.slots) k))
      ≡ rank (λ (n : ℕ). n) (inner.by_number (block_of_held h))
  ranked k h few at = go (block_of_held h) refl
    where
      go : (b : Option Block) → block_of_held h ≡ b
          → rank (blocks_of (state_of t.desk)) (on (handle_of (state_of t.desk)) (empty kind.Owner) (slot_pointer (shown_slots m t.slots) k))
          ≡ rank (λ (n : ℕ). n) (inner.by_number b)
      go None e = ap (λ x. rank (blocks_of (state_of t.desk)) (on (handle_of (state_of t.desk)) (empty kind.Owner) x)) (no_pointer m k t h few at e)
      go (Some b) e =
          let has = has_pointer m k t h b is.fits few at e in
          let block = (shown_held (opening_of t.desk.shape) t.desk.seen t.desk.name (kind_of_held h) (place_of_held h) b.0 is.stands.legal has.has).1 in
          ap (λ x. rank (blocks_of (state_of t.desk)) (on (handle_of (state_of t.desk)) (empty kind.Owner) x)) has.at
          ∙ ap (λ n. rank (λ (q : ℕ). q) (handle kind.Owner (Some n) None)) block

  -- and whether the first comes before the other
  pub in_order : (b : Bool) → AreInOrder t i j b → MarksAct V worth m t taken (act.Ask (question.Before i j)) (Got b) (answer.Before b)
  in_order b c = record {
    acts = asked_mark (question.Before i j) b
        (c.told ∙ (λ k. nat_lt (sym (ranked i c.one lt c.at.0) k) (sym (ranked j c.other less c.at.1) k)));
    says = refl;
  }
