use Rattle.std.proofs.Common.{sym, subst}
use Rattle.script_runner.specs.SlotCalls as calls
use Rattle.script_runner.proofs.Inquiring as law
use Rattle.script_runner.proofs.Prelude.{IsWeakAt}
use Rattle.script_runner.proofs.Refusals.{weak_there}
use Rattle.script_runner.proofs.acts.questions.expire.Goals as goal

pub returns-clause-acts : goal.returns-clause-acts
returns-clause-acts g c =
    law.expires c.args.hand c.args.name c.args.taken c.args.table.now c.expired-expired.new.self c.requires.seated c.requires.name c.expired-expired.result
    (subst (λ j. calls.Expires c.args.table.now j c.expired-expired.result c.expired-expired.new.self) c.from.ensures c.expired-expired.ensures)

pub returns-clause-same : goal.returns-clause-same
returns-clause-same g c = c.expired-expired.ensures.rest.0

pub expired-expired-requires : goal.expired-expired-requires
expired-expired-requires g c =
    let t = c.args.table.now in subst (IsWeakAt t.slots) (sym c.from.ensures) (weak_there t.slots c.args.name c.requires.kind)
