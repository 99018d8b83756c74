use Rattle.std.proofs.Common.{sym, subst}
use Rattle.script_runner.proofs.Prelude.{IsOwnerAt}
use Rattle.control_word.specs.declared.model.handle.Kind.TheVariants as kind
use Rattle.script_runner.specs.This as this
use Rattle.script_runner.proofs.Acting as law
use Rattle.script_runner.proofs.Granting as granting
use Rattle.script_runner.proofs.Refusals.{owner_there}
use Rattle.script_runner.proofs.acts.takes.weak_this.Goals as goal

pub weak_from_this-requires-clause-of : goal.weak_from_this-requires-clause-of
weak_from_this-requires-clause-of g c =
    let t = c.args.table.now in subst (IsOwnerAt t.slots) (sym c.from.ensures) (owner_there t.slots c.args.name c.requires.kind)

pub returns-in-Ok : goal.returns-in-Ok
returns-in-Ok g c =
    let t = c.args.table.now in let u = c.weak_from_this.new.self in
    let did : this.SharesThisWeakly t c.args.name c.args.hand u = subst (λ j. this.SharesThisWeakly t j c.args.hand u) c.from.ensures c.in-Ok.ensures.shared in
    record { acts = law.gives_weakly c.args.hand c.args.name t u c.requires.hand c.requires.name did; kinds = granting.weak_kind _ t u c.args.hand did.this }

pub returns-in-Err : goal.returns-in-Err
returns-in-Err g c =
    let t = c.args.table.now in let u = c.weak_from_this.new.self in let e = c.in-Err.ensures.refused in
    let did = granting.not_given c.args.hand t u c.requires.hand c.refused.result c.args.name kind.Weak c.in-Err.why c.requires.below c.requires.name
    (subst (λ j. this.IsNoThis t j c.in-Err.why) c.from.ensures e.0) e.1 c.refused.ensures in
    record { acts = did.0; kinds = did.1 }
