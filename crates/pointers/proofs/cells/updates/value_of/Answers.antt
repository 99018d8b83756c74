use Rattle.std.proofs.Common.{rules, ◌≡◌, Err}
use Rattle.pointers.proofs.Values.{fault_as}
use Rattle.pointers.proofs.cells.updates.value_of.Goals as goal

pub returns-in_err-value-in-Some-clause-refused : goal.returns-in_err-value-in-Some-clause-refused
returns-in_err-value-in-Some-clause-refused g c =
    let from = c.from_residual.ensures in
    let same : c.from_residual.result ≡ Err c.in_err-value-in-Some.field-0.0 = search (from, rules) in
    fault_as _ _ _ same (c.in-Some.of, c.in-Some.is, c.in_err-value-in-Some.ensures.fault)
