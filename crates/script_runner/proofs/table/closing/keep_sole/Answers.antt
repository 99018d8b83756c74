use Rattle.script_runner.proofs.Crews.{can_close}
use Rattle.script_runner.proofs.table.closing.keep_sole.Goals as goal

pub returns-clause-sole : goal.returns-clause-sole
returns-clause-sole g c =
    let r = c.requires in
    can_close c.args.domain c.args.desk r.here c.assert_invariant.ensures r.none.0 r.none.1 (c.is_sole.ensures.0 c.if-not-is_sole.false)
