use Rattle.std.proofs.Common.{ℕ, sym, ap, subst}
use Rattle.script_runner.proofs.Prelude.{IsKindAt, kind_at, TableNow, TellsSlotHeld}
use Rattle.script_runner.proofs.CellActs as law
use Rattle.script_runner.proofs.Reaching.{in_reach}
use Rattle.script_runner.proofs.Refusals.{handle_of_kind}
use Rattle.script_runner.proofs.acts.cells.holds.Goals as goal

pub returns-in-Err-clause-acts : goal.returns-in-Err-clause-acts
returns-in-Err-clause-acts g c =
    law.ask_refused c.args.hand c.args.table.now c.args.cell c.requires.named c.requires.reached c.requires.seated
    c.args.name c.requires.kind c.args.taken c.in-Err.why c.holds.new.self c.in-Err.ensures.refused

pub returns-in-Err-clause-same : goal.returns-in-Err-clause-same
returns-in-Err-clause-same g c = ap (λ (t : TableNow ℕ). t.slots) c.in-Err.ensures.refused.1

pub returns-in-Ok-clause-acts : goal.returns-in-Ok-clause-acts
returns-in-Ok-clause-acts g c =
    law.ask_answered c.args.hand c.args.table.now c.args.cell c.requires.named c.requires.reached c.requires.seated
    c.args.name c.requires.kind c.args.taken c.in-Ok.holds c.holds.new.self c.requires.name
    (subst (λ j. TellsSlotHeld c.args.table.now c.args.cell j c.in-Ok.holds c.holds.new.self) c.from.ensures c.in-Ok.ensures.told)

pub returns-in-Ok-clause-same : goal.returns-in-Ok-clause-same
returns-in-Ok-clause-same g c = c.in-Ok.ensures.told.rest.0

pub holds-requires-clause-reach : goal.holds-requires-clause-reach
holds-requires-clause-reach g c = in_reach c.args.table.now c.args.cell c.requires.reached

pub holds-requires-clause-at : goal.holds-requires-clause-at
holds-requires-clause-at g c =
    let t = c.args.table.now in let k = kind_at c.args.cell in
    subst (IsKindAt k t.slots) (sym c.from.ensures) (handle_of_kind t.slots c.args.name k c.requires.kind)
