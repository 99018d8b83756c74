use Rattle.std.proofs.Common.{◌∙◌, arith}
use Rattle.control_block.proofs.Shelving.{unshelved_on}
use Rattle.control_block.proofs.desk.Desk.unshelve.Goals as goal

pub returns-clause-unshelved : goal.returns-clause-unshelved
returns-clause-unshelved g c =
    unshelved_on _ _ _ _ _ c.unshelve_told-taken.ensures.unshelved c.unshelve_any.ensures.unshelved

pub returns-clause-sole : goal.returns-clause-sole
returns-clause-sole g c = λ sole.
    let a = c.unshelve_told-taken.ensures in let t = a.unshelved.clears sole in
    let most = a.most in let fewer = t.fewer in let rest = c.unshelve_any.ensures.sole t.sole in omega (arith, most, fewer, rest)

pub returns-clause-same : goal.returns-clause-same
returns-clause-same g c = λ z.
    c.unshelve_any.ensures.same (omega (arith, z)) ∙ c.unshelve_told-taken.ensures.same (omega (arith, z))
