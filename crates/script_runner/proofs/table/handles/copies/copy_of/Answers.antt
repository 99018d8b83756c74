use Rattle.std.proofs.Common.{sym, refl, ◌∙◌, subst}
use Rattle.script_runner.proofs.TablePrelude.{bag_of, Held, IsCopy, Owner, Weak, with_handle}
use Rattle.control_word.specs.declared.model.handle.Kind.TheVariants as kind
use Rattle.script_runner.proofs.Bringing.{weakly}
use Rattle.script_runner.proofs.table.handles.copies.copy_of.Goals as goal

pub returns-in-Ok-clause-copy : goal.returns-in-Ok-clause-copy
returns-in-Ok-clause-copy g c =
    let e = c.in-Ok.ensures in
    subst (λ (h : Held). IsCopy h c.args.desk.now (Owner c.in-Ok.copy) c.share.new.desk) (sym c.in-Owner.is)
    record { owner = c.in-Ok.copy; is = refl; event = (e.handle.0, e.handle.1, e.event) }

pub returns-in-Ok-share_weak-clause-copy : goal.returns-in-Ok-share_weak-clause-copy
returns-in-Ok-share_weak-clause-copy g c =
    let e = c.in-Ok-share_weak.ensures in
    subst (λ (h : Held). IsCopy h c.args.desk.now (Weak c.in-Ok-share_weak.copy) c.share_weak.new.desk) (sym c.in-Weak.is)
    record { weak = c.in-Ok-share_weak.copy; is = refl; event = (e.handle.0, e.handle.1, e.event) }

pub returns-in-Ok-clause-bag : goal.returns-in-Ok-clause-bag
returns-in-Ok-clause-bag g c =
    let e = c.in-Ok.ensures in
    e.bag ∙ (λ i. with_handle kind.Owner (sym e.handle.0 i) (sym e.handle.1 i) (bag_of c.args.desk.now))

pub returns-in-Ok-share_weak-clause-bag : goal.returns-in-Ok-share_weak-clause-bag
returns-in-Ok-share_weak-clause-bag g c =
    let e = c.in-Ok-share_weak.ensures in
    e.bag ∙ weakly (bag_of c.args.desk.now) c.in-Ok-share_weak.copy _ _ e.handle.0 e.handle.1
