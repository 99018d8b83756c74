-- How many steps the end of an object has left, step by step.
use Rattle.std.proofs.Common.{◌≡◌, ℕ, ◌≤◌, cond, List, [], ◌∷◌, ◌==◌, Some, None, arith}
use Rattle.step_core.proofs.Prelude.{Clearing, cond_both, emptied, empties, Ending, ends_on}
use Rattle.step_core.proofs.Prelude.{eqb-false, FrameView, ghost_after, GhostState}
use Rattle.step_core.proofs.Prelude.{IsClearingMember, kind_of_member, Member, model_state}
use Rattle.step_core.proofs.Prelude.{object_of_block, Rest, seen, silent, staged, Step, weak}
use Rattle.step_core.proofs.Prelude.{with_endings, within, word_of_cell}
use Rattle.step_table.specs.declared.memory.ghost_history.AtomicStep.TheVariants as atomic_step
use Rattle.step_core.proofs.runs.Alone.{IsLess}
use Rattle.step_core.proofs.runs.Trying.{alone_back}
use Rattle.step_core.proofs.telling.Walking.{IsFree, carried_most, over_less, staged_less}
use Rattle.step_core.proofs.telling.Walking.{taken_out}

-- the ending begun last goes on
pub end_less : (v : GhostState) (d : ℕ) (w : FrameView) (e : Ending) (es : List Ending) → w.endings ≡ e ∷ es → IsFree w.slots → e.stage ≤ 3
    → IsLess v d Rest w (Some (ends_on v w e es))
end_less v d w e es is free le =
    let finished : Step = record {
      atomic_step = Some (atomic_step.Finish e.block (weak (model_state v) (object_of_block v e.block) == 0));
      pending_call = Rest;
      frame_view = with_endings w es;
      said = silent e.statement;
    } in
    let cleared = within (with_endings w (staged e ∷ es)) e.statement (Some (atomic_step.Clear e.block e.stage)) Rest in
    let looked = within w e.statement None Clearing in
    cond_both (e.stage == 3) finished (cond (word_of_cell v (Member e.block e.stage) == 0) cleared looked) (λ (x : Step). IsLess v d Rest w (Some x))
    (λ _. let a = over_less w e es is free in record { own = omega (arith, a); most = omega (arith, a) })
    (λ ne. cond_both (word_of_cell v (Member e.block e.stage) == 0) cleared looked (λ (x : Step). IsLess v d Rest w (Some x))
    (λ _.
    let n = eqb-false e.stage 3 ne in
    let a = staged_less w e es is free (omega (arith, le, n)) in
    record { own = omega (arith, a); most = omega (arith, a) })
    (λ _. record { own = omega arith; most = omega arith }))

-- what a member holds comes out: it has to leave, and what of its funds wasn't taken is given back
pub out_less : (v : GhostState) (d : ℕ) (w : FrameView) (es : List Ending) → w.endings ≡ es → IsClearingMember w.slots es
    → IsLess v d Clearing w (emptied v w es)
out_less v d w [] is held = absurd held
out_less v d w (e ∷ es) is held =
    let y = empties v w e es in
    let x = seen v (Member e.block e.stage) in
    let a = taken_out w y.frame_view.slots e es is held.0 in
    let b = carried_most (staged e ∷ es) y.frame_view.slots in
    let r = alone_back (ghost_after v d y.atomic_step) y.frame_view (kind_of_member 2 e.stage) e.statement x x.owned in
    let l = r.0 in
    let s = r.1 in
    record { own = omega (arith, a, b, l); most = omega (arith, a, b, s) }
