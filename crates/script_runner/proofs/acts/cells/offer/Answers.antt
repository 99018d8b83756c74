use Rattle.std.proofs.Common.{sym, refl, subst}
use Rattle.script_runner.proofs.Prelude.{IsHandleAt, kind_at}
use Rattle.script_runner.proofs.CellActs as law
use Rattle.script_runner.proofs.Reaching.{in_reach}
use Rattle.script_runner.proofs.Refusals.{handle_there}
use Rattle.script_runner.proofs.acts.cells.offer.Goals as goal

pub returns-in-Err-clause-acts : goal.returns-in-Err-clause-acts
returns-in-Err-clause-acts g c =
    law.offer_refused c.args.hand c.args.table.now c.args.cell c.requires.named c.requires.reached c.args.name
    c.in-Err.why c.refused.result c.requires.hand c.in-Err.ensures.refused c.refused.ensures

pub returns-in-Err-clause-kinds : goal.returns-in-Err-clause-kinds
returns-in-Err-clause-kinds g c =
    law.refused_kinds c.args.hand (kind_at c.args.cell) c.args.table.now c.args.table.now c.refused.result c.in-Err.why c.refused.ensures refl

pub returns-clause-acts : goal.returns-clause-acts
returns-clause-acts g c =
    (law.offer_taken c.args.hand c.args.table.now c.args.cell c.requires.named c.requires.reached c.args.name
    c.from.result c.copy.new.self c.requires.hand c.requires.name c.requires.kind c.in-Ok.ensures.there c.from.ensures
    c.copy.ensures).0

pub returns-clause-kinds : goal.returns-clause-kinds
returns-clause-kinds g c =
    (law.offer_taken c.args.hand c.args.table.now c.args.cell c.requires.named c.requires.reached c.args.name
    c.from.result c.copy.new.self c.requires.hand c.requires.name c.requires.kind c.in-Ok.ensures.there c.from.ensures
    c.copy.ensures).1

pub reaches-requires : goal.reaches-requires
reaches-requires g c = record { reach = in_reach c.args.table.now c.args.cell c.requires.reached }

pub copy-requires-clause-from : goal.copy-requires-clause-from
copy-requires-clause-from g c =
    let t = c.args.table.now in subst (IsHandleAt t.slots) (sym c.from.ensures) (handle_there t.slots c.args.name (kind_at c.args.cell) c.requires.kind)
