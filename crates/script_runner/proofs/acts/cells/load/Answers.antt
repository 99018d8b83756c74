use Rattle.script_runner.proofs.Prelude.{kind_at}
use Rattle.script_runner.proofs.CellActs as law
use Rattle.script_runner.proofs.CellKinds.{loaded_kind}
use Rattle.script_runner.proofs.Reaching.{in_reach}
use Rattle.script_runner.proofs.acts.cells.load.Goals as goal

pub returns-in-Err-clause-acts : goal.returns-in-Err-clause-acts
returns-in-Err-clause-acts g c =
    law.load_refused c.args.hand c.args.table.now c.args.cell c.requires.named c.requires.reached c.in-Err.why
    c.refused.result c.load.new.self c.requires.hand c.in-Err.ensures.refused c.refused.ensures

pub returns-in-Err-clause-kinds : goal.returns-in-Err-clause-kinds
returns-in-Err-clause-kinds g c =
    law.refused_kinds c.args.hand (kind_at c.args.cell) c.args.table.now c.load.new.self c.refused.result c.in-Err.why c.refused.ensures
    c.in-Err.ensures.refused.1

pub returns-in-Ok-clause-acts : goal.returns-in-Ok-clause-acts
returns-in-Ok-clause-acts g c =
    law.load_taken c.args.hand c.args.table.now c.args.cell c.requires.named c.requires.reached c.load.new.self
    c.requires.hand c.in-Ok.ensures.loaded c.assert_invariant.ensures.fits c.assert_invariant.ensures.stands

pub returns-in-Ok-clause-kinds : goal.returns-in-Ok-clause-kinds
returns-in-Ok-clause-kinds g c = loaded_kind c.args.table.now c.load.new.self c.args.cell c.args.hand c.in-Ok.ensures.loaded

pub load-requires-clause-reach : goal.load-requires-clause-reach
load-requires-clause-reach g c = in_reach c.args.table.now c.args.cell c.requires.reached
