use Rattle.std.proofs.Common.{sym, subst}
use Rattle.script_runner.proofs.Prelude.{IsOwnerAt}
use Rattle.script_runner.specs.SlotCalls as calls
use Rattle.script_runner.proofs.Acting as law
use Rattle.script_runner.proofs.Granting as granting
use Rattle.script_runner.proofs.Refusals.{owner_there}
use Rattle.script_runner.proofs.acts.takes.downgrade.Goals as goal

pub downgrade-requires-clause-from : goal.downgrade-requires-clause-from
downgrade-requires-clause-from g c =
    let t = c.args.table.now in subst (IsOwnerAt t.slots) (sym c.from.ensures) (owner_there t.slots c.args.name c.requires.kind)

pub returns : goal.returns
returns g c =
    let t = c.args.table.now in let u = c.downgrade.new.self in
    let did : calls.Downgrades t c.args.name c.args.hand u = subst (λ j. calls.Downgrades t j c.args.hand u) c.from.ensures c.downgrade.ensures in
    record { acts = law.downgraded c.args.hand c.args.name t u c.requires.hand c.requires.name did; kinds = granting.weak_kind _ t u c.args.hand did.weak }
