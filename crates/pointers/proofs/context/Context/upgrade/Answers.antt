use Rattle.std.proofs.Common.{Ok, Err, sym, ap, ◌∙◌}
use Rattle.pointers.proofs.Prelude.{block_of}
use Rattle.control_block.specs.declared.handles.Held.TheVariants as held
use Rattle.pointers.specs.Whole.{ContextNow}
use Rattle.pointers.proofs.HandCalls.{locks_now, locks_not, owner_by}
use Rattle.pointers.proofs.Calls.{by_upgrade, upgraded}
use Rattle.pointers.proofs.Handles.{alike, bears_by, more_kept, no_owner, of_one, weak_held}
use Rattle.std.proofs.Common.{refl}
use Rattle.pointers.proofs.Handles.{since}
use Rattle.pointers.proofs.context.Context.upgrade.Goals as goal

pub upgrade-requires-clause-holds : goal.upgrade-requires-clause-holds
upgrade-requires-clause-holds g c =
    weak_held g.D.Domain.opened c.self.inside.desk c.self.inside.pile c.self.inside.claims.entries c.args.of.now.at c.args.of.now.known c.look-of.result.now
    c.self.invariant c.look-of.ensures.has c.look-of.ensures.handle

pub invariant_of-self : goal.invariant_of-self
invariant_of-self g c =
    let o = g.D.Domain.opened in let d = c.self.inside.desk in let e = c.upgrade.new.desk in let p = c.self.inside.pile in
    let cs = c.self.inside.claims.entries in
    let h = c.in-Ok.handle in let of = c.look-of.result.now in let says = c.in-Ok.ensures in
    more_kept o d e p cs c.look-of.new.claims.entries c.register.new.claims.entries (held.Owner h) c.register.result.known c.self.invariant
    c.assert_invariant.ensures (by_upgrade d of.block of.place (Ok h) e says.upgrade) says.keeps
    says.bag says.held c.look-of.ensures.claims c.register.ensures.claims c.register.ensures.known

pub invariant_of-self-in-Err : goal.invariant_of-self-in-Err
invariant_of-self-in-Err g c =
    let o = g.D.Domain.opened in let d = c.self.inside.desk in let e = c.upgrade.new.desk in let p = c.self.inside.pile in
    let cs = c.self.inside.claims.entries in
    let of = c.look-of.result.now in let says = c.in-Err.ensures in
    alike o d e p p cs c.look-of.new.claims.entries c.self.invariant (by_upgrade d of.block of.place (Err c.in-Err.why) e says.upgrade)
    (bears_by o d e p cs c.self.invariant says.keeps)
    says.refused.0 says.refused.1 c.look-of.ensures.claims

pub returns-in-Ok-clause-one : goal.returns-in-Ok-clause-one
returns-in-Ok-clause-one g c =
    let o = g.D.Domain.opened in let d = c.self.inside.desk in let e = c.upgrade.new.desk in let p = c.self.inside.pile in
    let cs = c.self.inside.claims.entries in
    let h = c.in-Ok.handle in let of = c.look-of.result.now in let says = c.in-Ok.ensures in
    of_one o d e p p cs c.args.of.now.at c.args.of.now.known c.register.result.known (held.Owner h) c.self.invariant
    c.look-of.ensures.has (by_upgrade d of.block of.place (Ok h) e says.upgrade) c.register.ensures.known
    ((upgraded d of.block of.place h e says.upgrade).0 ∙ ap block_of (sym c.look-of.ensures.handle))

pub returns-in-Err-clause-refused : goal.returns-in-Err-clause-refused
returns-in-Err-clause-refused g c =
    let o = g.D.Domain.opened in let d = c.self.inside.desk in let e = c.upgrade.new.desk in let cs = c.self.inside.claims.entries in
    no_owner o d e c.self.inside.pile cs c.args.of.now.at c.args.of.now.known (held.Weak c.look-of.result.now) c.in-Err.why c.self.invariant
    c.look-of.ensures.has c.look-of.ensures.handle c.in-Err.ensures.upgrade

pub returns-in-Ok-clause-exact : goal.returns-in-Ok-clause-exact
returns-in-Ok-clause-exact g c =
    locks_now c.args.self.now.desk c.self.inside.desk c.upgrade.new.desk c.args.of.now.known c.register.result.known c.look-of.result.now c.in-Ok.handle
    c.look-of.ensures.handle
    c.in-Ok.ensures.upgrade c.register.ensures.known (ap (λ (x : ContextNow g.row.D-Value.Denot). x.desk) c.self.view_is)

pub returns-in-Err-clause-not : goal.returns-in-Err-clause-not
returns-in-Err-clause-not g c =
    locks_not c.args.self.now.desk c.self.inside.desk c.upgrade.new.desk c.args.of.now.known c.look-of.result.now c.in-Err.why c.look-of.ensures.handle
    c.in-Err.ensures.upgrade (ap (λ (x : ContextNow g.row.D-Value.Denot). x.desk) c.self.view_is)

pub returns-in-Err-clause-owned : goal.returns-in-Err-clause-owned
returns-in-Err-clause-owned g c = λ has.
    c.in-Err.ensures.owned (owner_by c.args.self.now.desk c.self.inside.desk c.args.of.now.known c.look-of.result.now c.look-of.ensures.handle
    (ap (λ (x : ContextNow g.row.D-Value.Denot). x.desk) c.self.view_is) has)

pub returns-in-Ok-clause-came : goal.returns-in-Ok-clause-came
returns-in-Ok-clause-came g c =
    let o = g.D.Domain.opened in let d = c.self.inside.desk in let e = c.upgrade.new.desk in
    since o d e c.self.inside.pile c.self.inside.claims.entries c.args.of.now.at c.args.of.now.known c.self.invariant c.look-of.ensures.has
    (locks_now d d e c.args.of.now.known c.register.result.known c.look-of.result.now c.in-Ok.handle c.look-of.ensures.handle c.in-Ok.ensures.upgrade
    c.register.ensures.known refl)
