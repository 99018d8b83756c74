-- A thread that asks whether a cell holds what a name does.
use Rattle.std.proofs.Common.{◌≡◌, ℕ, Bool, true, cond, ◌&&◌, Some, None, Option, sym, refl, ap}
use Rattle.std.proofs.Common.{◌∙◌, subst}
use Rattle.step_threads.proofs.Prelude
use Prelude.{Answer, as_word, AtomicStep, BeginsAct, cell_of_name, CellName, CellWord, first}
use Prelude.{FitsThread, Frame, frame_view, ghost_after_step, GhostState, HasGoneOn, Holds}
use Prelude.{is_expected, is_of, is_there, kind_at, may_go, model_state, OnCell, refusal, Rest}
use Prelude.{rest, Site, slot_value, Slots, step_of_act, TableInvariant, task_at, Thread}
use Rattle.step_table.specs.declared.cell_steps.cell_step.CellStep.TheVariants.{Holds as HoldsStep}
use Rattle.step_threads.specs.declared.said.Answer.TheVariants as answer
use Rattle.step_threads.specs.Rows.{unless}
use Rattle.step_threads.proofs.Acting.{Rested, went_on}
use Rattle.step_threads.proofs.Named.{refusal_none}
use Rattle.step_threads.proofs.Threads.{own_pending}

-- the cell is there, and the name may go into it or not
pub goes_or_not : (slots : Slots) (c : CellName) (k : ℕ) (b : Bool) → is_there slots c ≡ true → is_of (kind_at c) (slot_value slots k) ≡ b
    → may_go slots c k ≡ b
goes_or_not slots c k b there fit = ap (λ (t : Bool). t && is_of (kind_at c) (slot_value slots k)) there ∙ fit

-- what it answers of a cell that is there
pub answers_there : (slots : Slots) (c : CellName) (k : ℕ) (b is : Bool) → is_there slots c ≡ true → may_go slots c k ≡ b
    → ◌≡◌ {A = Option Answer} (unless (refusal slots c) (answer.Holds (may_go slots c k && is))) (Some (answer.Holds (b && is)))
answers_there slots c k b is there goes =
    ap (λ (o : Option Answer). unless o (answer.Holds (may_go slots c k && is))) (refusal_none slots c there)
    ∙ ap (λ (t : Bool). Some (answer.Holds (t && is))) goes

module _ (d : ℕ) (t : Thread) (v : GhostState) where
  -- the look, or none where the name may not go into the cell
  abbrev pub looked_at : CellName → ℕ → Bool → Option AtomicStep
  looked_at c k b =
      let slots = t.frame.registers.slots.items in
      cond b (Some (OnCell (HoldsStep (cell_of_name (model_state v) slots c) (as_word (slot_value slots k)) (is_expected (model_state v) slots k c)))) None

  pub asks_so : (c : CellName) (k : ℕ) (b : Bool) → may_go t.frame.registers.slots.items c k ≡ b
      → first v d (frame_view t.frame) (task_at t.frame).statement (rest t.frame) (Holds k c)
      ≡ step_of_act v d (frame_view t.frame) (task_at t.frame).statement (rest t.frame) (Holds k c) (looked_at c k b) Rest
  asks_so c k b goes =
      ap (λ (x : Bool). step_of_act v d (frame_view t.frame) (task_at t.frame).statement (rest t.frame) (Holds k c) (looked_at c k x) Rest) goes

  -- it fits the table after the look
  pub held_on : (begins : BeginsAct d t v) (c : Site) (x : CellWord) (b : Bool) (c' : Frame) (w : GhostState) → TableInvariant v
      → w ≡ ghost_after_step v d (OnCell (HoldsStep c x b)) → HasGoneOn d t.frame c' w → FitsThread d (Rested t c') w
  held_on begins c x b c' w kept is on =
      let u = ghost_after_step v d (OnCell (HoldsStep c x b)) in
      subst (λ (z : GhostState). FitsThread d (Rested t c') z) (sym is)
      (went_on d t v begins u c' refl refl (own_pending v d (OnCell (HoldsStep c x b)) kept begins.fits.seat)
      (subst (λ (z : GhostState). HasGoneOn d t.frame c' z) is on))
