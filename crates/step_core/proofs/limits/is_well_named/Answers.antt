use Rattle.step_core.proofs.Prelude.{asked_list}
use Rattle.step_core.proofs.Programs.{three_named}
use Rattle.step_core.proofs.limits.is_well_named.Goals as goal

pub returns-clause-named : goal.returns-clause-named
returns-clause-named c =
    let names = c.names_of-first.result in
    three_named c.args.kinds.now c.args.call (asked_list names.0) (asked_list names.1) (asked_list names.2) c.is_declared_if-one.result
    c.is_declared_if-two.result
    c.is_declared_if-three.result
    c.all_three.result c.names_of-first.ensures.names c.all_three.ensures c.is_declared_if-one.ensures c.is_declared_if-two.ensures
    c.is_declared_if-three.ensures
