use Rattle.std.proofs.Common.{sym, subst}
use Rattle.script_runner.proofs.Prelude.{IsToEnd, IsTop}
use Rattle.script_runner.specs.declared.table.ends.Remains.TheVariants as table
use Rattle.script_runner.proofs.WorldStates.{top_is}
use Rattle.script_runner.proofs.workers.seats.top_of.Goals as goal

pub returns-in-Some-Null-clause-told : goal.returns-in-Some-Null-clause-told
returns-in-Some-Null-clause-told g c =
    let e = c.in-Some-Null in
    top_is c.args.table.now table.Null c.assert_invariant.ensures.stands c.assert_invariant.ensures.ends tt
    (subst (λ r. IsToEnd c.args.table.now r) e.field-0-is e.ensures.told)

pub returns-in-Some-Fields-clause-told : goal.returns-in-Some-Fields-clause-told
returns-in-Some-Fields-clause-told g c =
    let e = c.in-Some-Fields in
    subst (λ r. IsTop c.args.table.now r) (sym c.as_fields.ensures.1)
    (top_is c.args.table.now (table.Fields e.fields) c.assert_invariant.ensures.stands c.assert_invariant.ensures.ends c.as_fields.ensures.0
    (subst (λ r. IsToEnd c.args.table.now r) e.field-0-is e.ensures.told))
