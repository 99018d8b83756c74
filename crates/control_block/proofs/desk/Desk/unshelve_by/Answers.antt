use Rattle.std.proofs.Common.{◌∙◌, sym, subst, arith}
use Rattle.control_block.proofs.Prelude.{DeskNow, Unshelved}
use Rattle.control_block.proofs.Shelving.{belongs_on, unshelved_none, unshelved_on}
use Rattle.control_block.proofs.desk.Desk.unshelve_by.Goals as goal

pub returns-then-bits-eq0-clause-unshelved : goal.returns-then-bits-eq0-clause-unshelved
returns-then-bits-eq0-clause-unshelved g c =
    subst (λ (z : DeskNow g.row.V.Denot). Unshelved 0 c.args.self.now z) (sym c.look_at_summary-bits.ensures.same)
    (unshelved_none _)

pub loop-step-preserved : goal.loop-step-preserved
loop-step-preserved g c =
    let i = c.loop-step.invariant in let e = c.unshelve_bit-taken.ensures in
    record {
      belongs = belongs_on _ _ _ e.unshelved.passes.same i.belongs;
      few = let m = e.most in let f = i.few in omega arith;
      passed = unshelved_on _ _ _ _ _ i.passed e.unshelved;
      same = λ z. e.same (omega (arith, z)) ∙ i.same (omega (arith, z));
    }
