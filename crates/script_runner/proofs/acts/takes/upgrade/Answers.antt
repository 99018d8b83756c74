use Rattle.std.proofs.Common.{sym, subst}
use Rattle.script_runner.proofs.Prelude.{IsWeakAt}
use Rattle.script_runner.specs.Handles as handles
use Rattle.script_runner.proofs.Acting as law
use Rattle.script_runner.proofs.Granting as granting
use Rattle.script_runner.proofs.Refusals.{weak_there}
use Rattle.script_runner.proofs.acts.takes.upgrade.Goals as goal

pub upgrade-requires-clause-from : goal.upgrade-requires-clause-from
upgrade-requires-clause-from g c =
    let t = c.args.table.now in subst (IsWeakAt t.slots) (sym c.from.ensures) (weak_there t.slots c.args.name c.requires.kind)

pub returns-then-upgrade : goal.returns-then-upgrade
returns-then-upgrade g c =
    let t = c.args.table.now in let u = c.upgrade.new.self in
    let did : handles.Upgrades t c.args.name c.args.hand u =
    subst (λ j. handles.Upgrades t j c.args.hand u) c.from.ensures (c.upgrade.ensures.upgraded c.if-upgrade.true) in
    record { acts = law.upgraded c.args.hand c.args.name t u c.requires.hand c.requires.name did; kinds = granting.owner_kind _ t u c.args.hand did.owner }

pub returns : goal.returns
returns g c =
    let t = c.args.table.now in let u = c.upgrade.new.self in
    let did = granting.not_upgraded c.args.hand t u c.requires.hand c.refused.result c.args.name c.requires.name
    (subst (λ j. handles.GivesNoOwner t j u) c.from.ensures (c.upgrade.ensures.none c.if-upgrade.false)) c.refused.ensures in
    record { acts = did.0; kinds = did.1 }
