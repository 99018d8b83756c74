use Rattle.std.proofs.Common.{◌≡◌, ℕ, zero, suc, ◌-◌, ◌<◌, List, ◌∷◌, ◌++◌, sym, ap, ◌∙◌}
use Rattle.std.proofs.Common.{append_assoc, arith}
use Rattle.step_threads.proofs.Prelude.{clearing, Task}
use Rattle.step_threads.specs.declared.programs.act.Act.TheVariants as act
use Rattle.step_threads.proofs.programs.statement.tasks.Goals as goal

clearing_step : (n : ℕ) → 0 < n → clearing n ≡ record { statement = 0; act = act.Clear (n - 1) } ∷ clearing (n - 1)
clearing_step zero lt = absurd (omega arith)
clearing_step (suc n) lt = let e : n ≡ suc n - 1 = omega arith in ap (λ (k : ℕ). record { statement = 0; act = act.Clear k } ∷ clearing k) e

pub loop-left-preserved : goal.loop-left-preserved
loop-left-preserved c =
    ap (λ (z : List Task). z ++ clearing (c.loop-left.left - 1)) c.in_ok-push.ensures.items
    ∙ append_assoc c.loop-left.tasks.items _ (clearing (c.loop-left.left - 1))
    ∙ ap (λ (z : List Task). c.loop-left.tasks.items ++ z) (sym (clearing_step c.loop-left.left c.loop-left-test.true))
    ∙ c.loop-left.invariant
