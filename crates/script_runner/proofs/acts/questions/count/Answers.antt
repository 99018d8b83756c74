use Rattle.std.proofs.Common.{sym, subst}
use Rattle.script_runner.specs.SlotCalls as calls
use Rattle.script_runner.proofs.Inquiring as law
use Rattle.script_runner.proofs.Prelude.{IsHandleAt}
use Rattle.script_runner.proofs.Refusals.{handle_there}
use Rattle.script_runner.proofs.acts.questions.count.Goals as goal

pub returns-clause-acts : goal.returns-clause-acts
returns-clause-acts g c =
    law.counted c.args.hand c.args.name c.args.taken c.args.table.now c.use_count-owners.new.self c.requires.seated c.requires.name c.use_count-owners.result
    (subst (λ j. calls.CountsSlot c.args.table.now j c.use_count-owners.result c.use_count-owners.new.self) c.from.ensures c.use_count-owners.ensures)

pub returns-clause-same : goal.returns-clause-same
returns-clause-same g c = c.use_count-owners.ensures.rest.0

pub use_count-owners-requires : goal.use_count-owners-requires
use_count-owners-requires g c =
    let t = c.args.table.now in subst (IsHandleAt t.slots) (sym c.from.ensures) (handle_there t.slots c.args.name c.requires.kind.0 c.requires.kind.1)
