-- What a compare tells that has seen its cell, and how it comes to swap it.
use Rattle.std.proofs.Common.{◌≡◌, ℕ, ◌<◌, ◌≤◌, Bool, true, false, ◌⊎◌, [], length, ◌==◌, Some, None}
use Rattle.std.proofs.Common.{sym, refl, ap, ◌∙◌, subst, ⊎_elim, eqb-true}
use Rattle.step_threads.proofs.Prelude
use Prelude.{as_word, cell_bits, cell_of_name, CellName, CellWord, Compare, compared_in, comparing}
use Prelude.{Empty, FitsThread, frame_view, Full, GhostState, hand, Idle, is_expected, IsCellWord}
use Prelude.{IsNext, Matched, matches, model_state, Nothing, owing_for, Pending, pending}
use Prelude.{PendingCall, pointer_of, rest, same_value, Saw, Slot, slot_value, step_at}
use Prelude.{TableInvariant, task_at, Thread, waits, word_of_cell}
use Rattle.step_table.proofs.tables.Shown.{found_in, kept_cell}
use Rattle.step_threads.proofs.CellNames.{cell_open}
use Rattle.step_threads.proofs.CompareFits.{cell_of_compare}
use Rattle.step_threads.proofs.CompareSteps.{expected_told, fetches_none, matched_at, shown_still}
use Rattle.step_threads.proofs.Compares.{may_compare}
use Rattle.step_threads.proofs.LoadFits.{saw_next}
use Rattle.step_threads.proofs.StoreFits.{pending_call_here}

module _ (d : ℕ) (t : Thread) (v : GhostState) (k : ℕ) (c : CellName) (weak : Bool) (x : CellWord) (fits : FitsThread d t v)
    (act : (task_at t.frame).act ≡ Compare k c weak) where
  -- where a cell shows still what was seen, that tells whether it holds what is expected
  pub tells_still : (b : Bool) → TableInvariant v → t.frame.at < length t.frame.tasks.items → IsCellWord x
      → (word_of_cell v (cell_of_name (model_state v) t.frame.registers.slots.items c) == cell_bits x) ≡ true
      → same_value x (as_word (slot_value t.frame.registers.slots.items k)) ≡ b → is_expected (model_state v) t.frame.registers.slots.items k c ≡ b
  tells_still b kept lt valid same is =
      let slots = t.frame.registers.slots.items in
      let inside = cell_of_compare d t v k c weak x fits act lt in
      let may = may_compare t.frame k c weak lt fits.ready act fits.still in
      let seen = shown_still d slots v c x kept fits.seat fits.holds inside may.0 valid (eqb-true _ _ same) in
      sym (expected_told d slots v k c kept fits.seat fits.holds inside may.0 may.2)
      ∙ ap (λ (y : CellWord). same_value y (as_word (slot_value slots k))) (sym seen) ∙ is

  -- and no more funds of it were taken than it had
  pub few_still : TableInvariant v → t.frame.at < length t.frame.tasks.items → IsCellWord x
      → (word_of_cell v (cell_of_name (model_state v) t.frame.registers.slots.items c) == cell_bits x) ≡ true → x.taken ≤ 256
  few_still kept lt valid same =
      let slots = t.frame.registers.slots.items in
      let at = cell_of_name (model_state v) slots c in
      let inside = cell_of_compare d t v k c weak x fits act lt in
      let may = may_compare t.frame k c weak lt fits.ready act fits.still in
      let way = cell_open v d slots c inside fits.holds may.0 in
      (found_in v d at x kept fits.seat (kept_cell v d at kept way) valid (eqb-true _ _ same)).shows.few

  module _ (pending_call : (t.pending_call ≡ Saw x) ⊎ (t.pending_call ≡ Matched x)) where
    -- it is at its act, no object ends, and what was seen is the word of a cell
    pub match_within : t.frame.at < length t.frame.tasks.items
    match_within =
        ⊎_elim (λ (q : t.pending_call ≡ Saw x). (saw_next d t v x fits q).0)
        (λ (q : t.pending_call ≡ Matched x). let n : IsNext (Matched x) t.frame = subst (λ (h : PendingCall). IsNext h t.frame) q fits.next in n.0) pending_call

    pub match_none : t.frame.endings.list ≡ []
    match_none =
        ⊎_elim (λ (q : t.pending_call ≡ Saw x). (saw_next d t v x fits q).2)
        (λ (q : t.pending_call ≡ Matched x). let n : IsNext (Matched x) t.frame = subst (λ (h : PendingCall). IsNext h t.frame) q fits.next in n.2) pending_call

    pub match_valid : IsCellWord x
    match_valid =
        ⊎_elim (λ (q : t.pending_call ≡ Saw x). (pending_call_here d t v (Saw x) fits q).1)
        (λ (q : t.pending_call ≡ Matched x). (pending_call_here d t v (Matched x) fits q).1) pending_call

    pub match_goes : waits v t.pending_call (frame_view t.frame) ≡ false
    match_goes =
        let w = frame_view t.frame in
        ⊎_elim (λ (q : t.pending_call ≡ Saw x). ap (λ (h : PendingCall). waits v h w) q)
        (λ (q : t.pending_call ≡ Matched x). ap (λ (h : PendingCall). waits v h w) q) pending_call

    -- its next step is the swap: there is nothing to bring, or it is brought
    pub match_at : same_value x (as_word (slot_value t.frame.registers.slots.items k)) ≡ true
        → pending v d ≡ owing_for (model_state v) (slot_value t.frame.registers.slots.items (hand t.frame.registers.slots.items)) 256
        → step_at v d t.pending_call (frame_view t.frame)
        ≡ Some
        (matches v d (frame_view t.frame) (task_at t.frame).statement (rest t.frame) (Compare k c weak)
        (cell_of_name (model_state v) t.frame.registers.slots.items c)
        (compared_in t.frame.registers.slots.items (comparing t.frame.registers.slots.items k weak)) x)
    match_at same owes =
        let slots = t.frame.registers.slots.items in
        ⊎_elim (λ (q : t.pending_call ≡ Saw x). fetches_none d t v k c weak x match_within act q same
        (bare (slot_value slots (hand slots)) (sym (pending_call_here d t v (Saw x) fits q).0 ∙ owes)))
        (λ (q : t.pending_call ≡ Matched x). matched_at d t v k c weak x match_within act q) pending_call
      where
        bare : (a : Slot) → ◌≡◌ {A = Pending Nothing} Idle (owing_for (model_state v) a 256) → pointer_of a ≡ None
        bare (Empty p) e = refl
        bare (Full y) e = cc
