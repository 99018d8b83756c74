use Rattle.std.proofs.Common.{sym, subst}
use Rattle.script_runner.specs.SlotCalls as calls
use Rattle.script_runner.proofs.Inquiring as law
use Rattle.script_runner.proofs.Prelude.{IsOwnerAt}
use Rattle.script_runner.proofs.Refusals.{owner_there}
use Rattle.script_runner.proofs.acts.questions.place.Goals as goal

pub returns-clause-acts : goal.returns-clause-acts
returns-clause-acts g c =
    law.place_told c.args.hand c.args.name c.args.taken c.args.table.now c.args.table.now c.requires.seated c.requires.name c.place-place.result
    (subst (λ j. calls.PointsTo c.args.table.now j c.place-place.result) c.from.ensures c.place-place.ensures)

pub place-place-requires : goal.place-place-requires
place-place-requires g c =
    let t = c.args.table.now in subst (IsOwnerAt t.slots) (sym c.from.ensures) (owner_there t.slots c.args.name c.requires.kind)
