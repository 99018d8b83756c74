use Rattle.std.proofs.Common.{arith}
use Rattle.script_runner.proofs.CellKinds.{moved_aside}
use Rattle.script_runner.proofs.Refusals.{handle_there, kind_within}
use Rattle.script_runner.proofs.acts.cells.set_aside.Goals as goal

pub move_to-requires : goal.move_to-requires
move_to-requires g c =
    let t = c.args.table.now in let k = c.requires.full in let lt = kind_within t.slots c.args.hand k.0 k.1 in
    record { from = handle_there t.slots c.args.hand k.0 k.1; to = omega (arith, lt) }

pub returns-clause-kinds : goal.returns-clause-kinds
returns-clause-kinds g c = moved_aside c.args.table.now c.move_to.new.self c.args.hand c.move_to.ensures
