use Rattle.std.proofs.Common.{rules, ◌≡◌, Err}
use Rattle.pointers.proofs.Values.{fault_as, why_not_copied}
use Rattle.pointers.proofs.cells.cached_value.CachedValue.take.Goals as goal

pub returns-in_err-value-clause-refused : goal.returns-in_err-value-clause-refused
returns-in_err-value-clause-refused g c =
    let from = c.from_residual-in_err-value.ensures in
    let same : c.from_residual-in_err-value.result ≡ Err c.in_err-value.field-0.0 = search (from, rules) in
    fault_as _ _ _ same
    (why_not_copied g.D.Domain.opened _ c.in_ok-owner.field-0 c.in-Some.owner c.in_err-value.field-0.0
    c.in_ok-owner.ensures.loaded c.in-Some.is c.in_err-value.ensures.fault)
