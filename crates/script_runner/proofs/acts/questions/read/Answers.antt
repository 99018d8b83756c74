use Rattle.std.proofs.Common.{Err, Ok, sym, subst}
use Rattle.script_runner.proofs.Prelude.{IsOwnerAt}
use Rattle.script_runner.specs.SlotCalls as calls
use Rattle.script_runner.proofs.Inquiring as law
use Rattle.script_runner.proofs.Refusals.{owner_there}
use Rattle.script_runner.proofs.acts.questions.read.Goals as goal

pub read-requires : goal.read-requires
read-requires g c =
    let t = c.args.table.now in subst (IsOwnerAt t.slots) (sym c.from.ensures) (owner_there t.slots c.args.name c.requires.kind)

pub returns-in-Ok-clause-acts : goal.returns-in-Ok-clause-acts
returns-in-Ok-clause-acts g c =
    law.read c.args.hand c.args.name c.args.taken c.args.table.now c.read.new.self c.requires.seated c.requires.name c.in-Ok.field
    (subst (λ j. calls.ReadsSlot c.args.table.now j (Ok c.in-Ok.field) c.read.new.self) c.from.ensures c.in-Ok.ensures)

pub returns-in-Ok-clause-same : goal.returns-in-Ok-clause-same
returns-in-Ok-clause-same g c = c.in-Ok.ensures.rest.0

pub returns-in-Err-clause-acts : goal.returns-in-Err-clause-acts
returns-in-Err-clause-acts g c =
    law.read_not c.args.hand c.args.name c.args.taken c.args.table.now c.read.new.self c.requires.seated c.requires.name c.in-Err.why
    (subst (λ j. calls.ReadsSlot c.args.table.now j (Err c.in-Err.why) c.read.new.self) c.from.ensures c.in-Err.ensures)

pub returns-in-Err-clause-same : goal.returns-in-Err-clause-same
returns-in-Err-clause-same g c = c.in-Err.ensures.rest.0
