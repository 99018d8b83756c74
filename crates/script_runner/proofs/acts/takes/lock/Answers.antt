use Rattle.std.proofs.Common.{sym, subst}
use Rattle.script_runner.proofs.Prelude.{IsWeakAt}
use Rattle.script_runner.specs.SlotCalls as calls
use Rattle.script_runner.proofs.Acting as law
use Rattle.script_runner.proofs.Granting as granting
use Rattle.script_runner.proofs.Refusals.{weak_there}
use Rattle.script_runner.proofs.acts.takes.lock.Goals as goal

pub lock-got-requires-clause-from : goal.lock-got-requires-clause-from
lock-got-requires-clause-from g c =
    let t = c.args.table.now in subst (IsWeakAt t.slots) (sym c.from.ensures) (weak_there t.slots c.args.name c.requires.kind)

pub returns : goal.returns
returns g c =
    let t = c.args.table.now in let u = c.lock-got.new.self in let got = c.lock-got.result in
    let did : calls.LocksSlot t c.args.name c.args.hand got u = subst (λ j. calls.LocksSlot t j c.args.hand got u) c.from.ensures c.lock-got.ensures in
    record { acts = law.locked c.args.hand c.args.name t u c.requires.hand c.requires.name got did; kinds = granting.owner_kind _ t u c.args.hand did.owner }
