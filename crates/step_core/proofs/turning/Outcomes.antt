-- What each step of a load or a compare does, and the first of a lock.
use Rattle.std.proofs.Common.{◌≡◌, ℕ, Bool, true, false, not, ◌&&◌, List, ◌==◌, Some, None, Option}
use Rattle.std.proofs.Common.{sym, refl, ap, ◌∙◌, subst, inr, eqb-true}
use Rattle.step_core.proofs.Prelude
use Prelude.{abstraction, Act, Alias, as_word, Ask, cell_bits, cell_of_name, CellName, CellWord}
use Prelude.{Clear, Compare, compared_in, CompareSwap, comparing, cond-true, cond_both, Count}
use Prelude.{Downgrade, Drop, Exchange, Expired, false≢true, fetches, first, frame_of, FromThis}
use Prelude.{gives_back, hand, Handle, Holds, is_spent, is_there, IsCellWord, IsMatchedBy}
use Prelude.{IsSeenBy, kind_in_state, Leave, Load, Lock, locked_pointer, Look, look_tells, Make}
use Prelude.{matched_on, matches, model_state, more_taken, Move, Offer, on, OnCell, OnShelf, Put}
use Prelude.{Read, Refill, Rest, same_value, Saw, saw_on, seen, settles, Share, slot_pointer}
use Prelude.{slot_value, step_of_act, step_of_look, Swap, Take, takes, Task, Turning, waits_on}
use Prelude.{within, word_of_cell, WorldState}
use Rattle.step_table.proofs.contained.Coming.{open_found}
use Rattle.step_table.proofs.contained.Telling.{compare_swap_tells, differing_tells, take_tells}
use Rattle.step_core.proofs.turning.Looking.{CanLook, cell_now, compare_so, found_now, load_so}
use Rattle.step_core.proofs.turning.Looking.{may_compare, unlike_so}
use Rattle.step_core.proofs.turning.Saying.{Acts}
use Rattle.step_core.proofs.turning.Trials.{Next, Outcome, is_looking, matches_out, sees_out}
use Rattle.step_core.proofs.turning.Trials.{takes_out}
use Rattle.step_core.proofs.turning.Locking.{lock_rest}

module _ (d : ℕ) (u : WorldState) (k : ℕ) (ts : List Task) (c : CellName) where
  load_rest : CanLook d u (Load c) → waits_on u.ghost_state (frame_of (abstraction u) d) (Load c) ≡ false → is_there (frame_of (abstraction u) d).slots c ≡ true
      → let v = u.ghost_state in let w = frame_of (abstraction u) d in let x = cell_of_name (model_state v) w.slots c in
      Outcome d u k ts (Load c) (step_of_look v d w k ts (Load c) x None (seen v x))
  load_rest can none there =
      let v = u.ghost_state in
      let w = frame_of (abstraction u) d in
      let x = cell_of_name (model_state v) w.slots c in
      let found = found_now d u c (Load c) can can.cell there in
      sees_out d u k ts (Load c) x (seen v x) there None (sym (ap (λ (b : Bool). b && is_spent (seen v x)) there) ∙ none)
      (load_so d u k ts c (OnCell (Look x (seen v x) None)) Rest there (look_tells v x (seen v x) found))

  load_saw : (x : CellWord) → IsCellWord x → CanLook d u (Load c) → is_there (frame_of (abstraction u) d).slots c ≡ true
      → let v = u.ghost_state in let w = frame_of (abstraction u) d in
      Outcome d u k ts (Load c) (takes v d w k ts (Load c) (cell_of_name (model_state v) w.slots c) None x)
  load_saw x valid can there =
      let v = u.ghost_state in
      let y = cell_of_name (model_state v) (frame_of (abstraction u) d).slots c in
      takes_out d u k ts (Load c) y x there None
      (λ t. load_so d u k ts c (OnCell (Take y x None)) (Refill Turning y (more_taken x) k) there
      (take_tells v y x (open_found v d y x can.kept can.seat (cell_now d u c (Load c) can can.cell there) valid (eqb-true _ _ t))))

  module _ (i : ℕ) (weak : Bool) (can : CanLook d u (Compare i c weak)) where
    compare_rest : waits_on u.ghost_state (frame_of (abstraction u) d) (Compare i c weak) ≡ false
        → Outcome d u k ts (Compare i c weak) (first u.ghost_state d (frame_of (abstraction u) d) k ts (Compare i c weak))
    compare_rest none =
        let v = u.ghost_state in
        let w = frame_of (abstraction u) d in
        let x = cell_of_name (model_state v) w.slots c in
        let a = Compare i c weak in
        let q = compared_in w.slots (comparing w.slots i weak) in
        let there = (may_compare d u i c weak can).there in
        let found = found_now d u c a can can.cell there in
        cond_both (same_value (seen v x) (as_word (slot_value w.slots i))) (within w k None (Saw (seen v x))) (step_of_look v d w k ts a x (Some q) (seen v x))
        (Outcome d u k ts a)
        (λ t. inr (record { quiet = refl; said = refl; frame_view = refl; history = refl; extent = refl; pending_call = refl }))
        (λ f. sees_out d u k ts a x (seen v x) refl (Some q) (sym (ap (λ (b : Bool). not b && is_spent (seen v x)) f) ∙ none)
        (unlike_so d u k ts i c weak can f))

    swapped_so : (x : CellWord) → IsCellWord x → same_value x (as_word (slot_value (frame_of (abstraction u) d).slots i)) ≡ true
        → let v = u.ghost_state in let w = frame_of (abstraction u) d in let y = cell_of_name (model_state v) w.slots c in
        (word_of_cell v y == cell_bits x) ≡ true
        → Acts d u k ts (Compare i c weak) (step_of_act v d w k ts (Compare i c weak)
        (Some (OnCell (CompareSwap y x (compared_in w.slots (comparing w.slots i weak))))) (gives_back (kind_in_state (model_state v) y) k x x.owned))
    swapped_so x valid same t =
        let v = u.ghost_state in
        let w = frame_of (abstraction u) d in
        let y = cell_of_name (model_state v) w.slots c in
        let q = comparing w.slots i weak in
        let may = may_compare d u i c weak can in
        let found = open_found v d y x can.kept can.seat (cell_now d u c (Compare i c weak) can can.cell may.there) valid (eqb-true _ _ t) in
        compare_so d u k ts i c weak (OnCell (CompareSwap y x (compared_in w.slots q))) (gives_back (kind_in_state (model_state v) y) k x x.owned)
        (compare_swap_tells v y x found d w.slots q can.kept can.holds may.expected may.new same)

    differs_so : (x : CellWord) → IsCellWord x → same_value x (as_word (slot_value (frame_of (abstraction u) d).slots i)) ≡ false
        → let v = u.ghost_state in let w = frame_of (abstraction u) d in let y = cell_of_name (model_state v) w.slots c in
        (word_of_cell v y == cell_bits x) ≡ true
        → Acts d u k ts (Compare i c weak) (step_of_act v d w k ts (Compare i c weak)
        (Some (OnCell (Take y x (Some (compared_in w.slots (comparing w.slots i weak)))))) (Refill Turning y (more_taken x) k))
    differs_so x valid differs t =
        let v = u.ghost_state in
        let w = frame_of (abstraction u) d in
        let y = cell_of_name (model_state v) w.slots c in
        let q = comparing w.slots i weak in
        let may = may_compare d u i c weak can in
        let found = open_found v d y x can.kept can.seat (cell_now d u c (Compare i c weak) can can.cell may.there) valid (eqb-true _ _ t) in
        compare_so d u k ts i c weak (OnCell (Take y x (Some (compared_in w.slots q)))) (Refill Turning y (more_taken x) k)
        (differing_tells v y x found d w.slots q can.kept can.holds may.expected may.new differs)

    -- what is expected was seen
    settles_so : (x : CellWord) → IsCellWord x → same_value x (as_word (slot_value (frame_of (abstraction u) d).slots i)) ≡ true → (o : Option Handle)
        → let v = u.ghost_state in let w = frame_of (abstraction u) d in let a = Compare i c weak in
        slot_pointer w.slots (hand w.slots) ≡ o
        → Outcome d u k ts a
        (on (fetches w k x) (matches v d w k ts a (cell_of_name (model_state v) w.slots c) (compared_in w.slots (comparing w.slots i weak)) x) o)
    settles_so x valid same None e =
        let v = u.ghost_state in
        let w = frame_of (abstraction u) d in
        let a = Compare i c weak in
        matches_out d u k ts a (cell_of_name (model_state v) w.slots c) x refl (compared_in w.slots (comparing w.slots i weak)) (swapped_so x valid same)
    settles_so x valid same (Some p) e =
        inr (record { quiet = refl; said = refl; frame_view = refl; history = refl; extent = refl; pending_call = refl })

    compare_saw : (x : CellWord) → IsCellWord x
        → let v = u.ghost_state in let w = frame_of (abstraction u) d in
        Outcome d u k ts (Compare i c weak)
        (settles v d w k ts (Compare i c weak) (cell_of_name (model_state v) w.slots c) (compared_in w.slots (comparing w.slots i weak)) x)
    compare_saw x valid =
        let v = u.ghost_state in
        let w = frame_of (abstraction u) d in
        let a = Compare i c weak in
        let y = cell_of_name (model_state v) w.slots c in
        let q = compared_in w.slots (comparing w.slots i weak) in
        cond_both (same_value x (as_word (slot_value w.slots i))) (on (fetches w k x) (matches v d w k ts a y q x) (slot_pointer w.slots (hand w.slots)))
        (takes v d w k ts a y (Some q) x) (Outcome d u k ts a) (λ t. settles_so x valid t (slot_pointer w.slots (hand w.slots)) refl)
        (λ f. takes_out d u k ts a y x refl (Some q) (differs_so x valid f))

    compare_matched : (x : CellWord) → IsCellWord x → same_value x (as_word (slot_value (frame_of (abstraction u) d).slots i)) ≡ true
        → let v = u.ghost_state in let w = frame_of (abstraction u) d in
        Outcome d u k ts (Compare i c weak)
        (matches v d w k ts (Compare i c weak) (cell_of_name (model_state v) w.slots c) (compared_in w.slots (comparing w.slots i weak)) x)
    compare_matched x valid same =
        let v = u.ghost_state in
        let w = frame_of (abstraction u) d in
        let a = Compare i c weak in
        matches_out d u k ts a (cell_of_name (model_state v) w.slots c) x refl (compared_in w.slots (comparing w.slots i weak)) (swapped_so x valid same)

-- the first step of an act that looks
pub rest_out : (d : ℕ) (u : WorldState) (k : ℕ) (ts : List Task) (a : Act) → is_looking (frame_of (abstraction u) d).slots a ≡ true → CanLook d u a
    → waits_on u.ghost_state (frame_of (abstraction u) d) a ≡ false
    → Outcome d u k ts a (first u.ghost_state d (frame_of (abstraction u) d) k ts a)
rest_out d u k ts (Load c) is can none =
    let v = u.ghost_state in
    let w = frame_of (abstraction u) d in
    let x = cell_of_name (model_state v) w.slots c in
    subst (Outcome d u k ts (Load c))
    (sym (cond-true (is_there w.slots c) (step_of_look v d w k ts (Load c) x None (seen v x)) (step_of_act v d w k ts (Load c) None Rest) is))
    (load_rest d u k ts c can none is)
rest_out d u k ts (Compare i c weak) is can none = compare_rest d u k ts c i weak can none
rest_out d u k ts (Make form) is can none = absurd (false≢true is)
rest_out d u k ts (Share j) is can none = absurd (false≢true is)
rest_out d u k ts (Downgrade j) is can none = absurd (false≢true is)
rest_out d u k ts (Lock j must) is can none = lock_rest d u k ts j must (locked_pointer (frame_of (abstraction u) d).slots (Lock j must)) refl is
rest_out d u k ts (Put j) is can none = absurd (false≢true is)
rest_out d u k ts (Leave j) is can none = absurd (false≢true is)
rest_out d u k ts (Clear j) is can none = absurd (false≢true is)
rest_out d u k ts (Count j) is can none = absurd (false≢true is)
rest_out d u k ts (Expired j) is can none = absurd (false≢true is)
rest_out d u k ts (Read j) is can none = absurd (false≢true is)
rest_out d u k ts (FromThis j kind) is can none = absurd (false≢true is)
rest_out d u k ts (Alias j n field) is can none = absurd (false≢true is)
rest_out d u k ts (Move j) is can none = absurd (false≢true is)
rest_out d u k ts (Ask q) is can none = absurd (false≢true is)
rest_out d u k ts (Offer j c) is can none = absurd (false≢true is)
rest_out d u k ts (Swap c) is can none = absurd (false≢true is)
rest_out d u k ts (Exchange j c) is can none = absurd (false≢true is)
rest_out d u k ts (Holds j c) is can none = absurd (false≢true is)
rest_out d u k ts Drop is can none = absurd (false≢true is)
rest_out d u k ts (OnShelf y) is can none = absurd (false≢true is)

pub saw_out : (d : ℕ) (u : WorldState) (k : ℕ) (ts : List Task) (x : CellWord) (a : Act) → IsSeenBy (frame_of (abstraction u) d).slots x a
    → IsCellWord x → CanLook d u a
    → Next d u k ts a (saw_on u.ghost_state d (frame_of (abstraction u) d) k ts x a)
saw_out d u k ts x (Load c) is valid can =
    let v = u.ghost_state in let w = frame_of (abstraction u) d in
    (takes v d w k ts (Load c) (cell_of_name (model_state v) w.slots c) None x, refl, load_saw d u k ts c x valid can is.0, λ j e. cc)
saw_out d u k ts x (Compare i c weak) is valid can =
    let v = u.ghost_state in let w = frame_of (abstraction u) d in (
      settles v d w k ts (Compare i c weak) (cell_of_name (model_state v) w.slots c) (compared_in w.slots (comparing w.slots i weak)) x,
      refl,
      compare_saw d u k ts c i weak can x valid,
      λ j e. cc,
    )
saw_out d u k ts x (Make form) is valid can = absurd is
saw_out d u k ts x (Share j) is valid can = absurd is
saw_out d u k ts x (Downgrade j) is valid can = absurd is
saw_out d u k ts x (Lock j must) is valid can = absurd is
saw_out d u k ts x (Put j) is valid can = absurd is
saw_out d u k ts x (Leave j) is valid can = absurd is
saw_out d u k ts x (Clear j) is valid can = absurd is
saw_out d u k ts x (Count j) is valid can = absurd is
saw_out d u k ts x (Expired j) is valid can = absurd is
saw_out d u k ts x (Read j) is valid can = absurd is
saw_out d u k ts x (FromThis j kind) is valid can = absurd is
saw_out d u k ts x (Alias j n field) is valid can = absurd is
saw_out d u k ts x (Move j) is valid can = absurd is
saw_out d u k ts x (Ask q) is valid can = absurd is
saw_out d u k ts x (Offer j c) is valid can = absurd is
saw_out d u k ts x (Swap c) is valid can = absurd is
saw_out d u k ts x (Exchange j c) is valid can = absurd is
saw_out d u k ts x (Holds j c) is valid can = absurd is
saw_out d u k ts x Drop is valid can = absurd is
saw_out d u k ts x (OnShelf y) is valid can = absurd is

pub matched_out : (d : ℕ) (u : WorldState) (k : ℕ) (ts : List Task) (x : CellWord) (a : Act) → IsMatchedBy (frame_of (abstraction u) d).slots x a → IsCellWord x
    → CanLook d u a → Next d u k ts a (matched_on u.ghost_state d (frame_of (abstraction u) d) k ts x a)
matched_out d u k ts x (Compare i c weak) is valid can =
    let v = u.ghost_state in let w = frame_of (abstraction u) d in (
      matches v d w k ts (Compare i c weak) (cell_of_name (model_state v) w.slots c) (compared_in w.slots (comparing w.slots i weak)) x,
      refl,
      compare_matched d u k ts c i weak can x valid is,
      λ j e. cc,
    )
matched_out d u k ts x (Load c) is valid can = absurd is
matched_out d u k ts x (Make form) is valid can = absurd is
matched_out d u k ts x (Share j) is valid can = absurd is
matched_out d u k ts x (Downgrade j) is valid can = absurd is
matched_out d u k ts x (Lock j must) is valid can = absurd is
matched_out d u k ts x (Put j) is valid can = absurd is
matched_out d u k ts x (Leave j) is valid can = absurd is
matched_out d u k ts x (Clear j) is valid can = absurd is
matched_out d u k ts x (Count j) is valid can = absurd is
matched_out d u k ts x (Expired j) is valid can = absurd is
matched_out d u k ts x (Read j) is valid can = absurd is
matched_out d u k ts x (FromThis j kind) is valid can = absurd is
matched_out d u k ts x (Alias j n field) is valid can = absurd is
matched_out d u k ts x (Move j) is valid can = absurd is
matched_out d u k ts x (Ask q) is valid can = absurd is
matched_out d u k ts x (Offer j c) is valid can = absurd is
matched_out d u k ts x (Swap c) is valid can = absurd is
matched_out d u k ts x (Exchange j c) is valid can = absurd is
matched_out d u k ts x (Holds j c) is valid can = absurd is
matched_out d u k ts x Drop is valid can = absurd is
matched_out d u k ts x (OnShelf y) is valid can = absurd is
