use Rattle.std.proofs.Common.{None, sym, subst}
use Rattle.script_runner.proofs.Prelude.{IsDealt, nothing}
use Rattle.script_runner.proofs.Acting.{went}
use Rattle.script_runner.proofs.Swapping.{swap_none}
use Rattle.step_threads.specs.declared.programs.act.Act.TheVariants as act
use Rattle.script_runner.proofs.acts.cells.swap.Goals as goal

pub returns-then-not-taken-clause-acts : goal.returns-then-not-taken-clause-acts
returns-then-not-taken-clause-acts g c =
    let t = c.args.table.now in
    subst (λ b. IsDealt c.args.hand t b (act.Swap c.args.cell) (went b None) t) (sym c.if-not-taken.true) (swap_none c.args.hand t c.args.cell)

pub returns-clause-acts : goal.returns-clause-acts
returns-clause-acts g c =
    subst (λ b. IsDealt c.args.hand c.args.table.now b (act.Swap c.args.cell) nothing c.swap_taken.new.table) (sym c.if-not-taken.false)
    c.swap_taken.ensures.acts
