use Rattle.std.proofs.Common.{refl, ◌∙◌, arith}
use Rattle.control_block.proofs.Shelving.{belongs_on, unshelved_none, unshelved_on}
use Rattle.control_block.proofs.desk.Desk.unshelve_told.Goals as goal

pub loop-step-init : goal.loop-step-init
loop-step-init g c =
    record { belongs = c.requires.domain; few = omega arith; passed = unshelved_none _; same = λ z. refl }

pub loop-step-preserved : goal.loop-step-preserved
loop-step-preserved g c =
    let i = c.loop-step.invariant in let e = c.unshelve_by-taken.ensures in
    record {
      belongs = belongs_on _ _ _ e.unshelved.passes.same i.belongs;
      few = let m = e.most in let f = i.few in omega arith;
      passed = unshelved_on _ _ _ _ _ i.passed e.unshelved;
      same = λ z. e.same (omega (arith, z)) ∙ i.same (omega (arith, z));
    }
