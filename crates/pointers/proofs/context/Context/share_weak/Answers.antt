use Rattle.std.proofs.Common.{sym, refl, ap, ◌∙◌}
use Rattle.pointers.proofs.Prelude.{bag_of, block_of}
use Rattle.control_block.specs.declared.handles.Held.TheVariants as held
use Rattle.pointers.proofs.Calls.{by_weak_share, weak_bag}
use Rattle.pointers.proofs.Handles.{more_kept, of_one, passed_on, was, weak_held}
use Rattle.pointers.proofs.HandCalls.{shares_weakly_now}
use Rattle.pointers.proofs.Handles.{since}
use Rattle.pointers.proofs.context.Context.share_weak.Goals as goal

pub share_weak-requires-clause-holds : goal.share_weak-requires-clause-holds
share_weak-requires-clause-holds g c =
    weak_held g.D.Domain.opened c.self.inside.desk c.self.inside.pile c.self.inside.claims.entries c.args.of.now.at c.args.of.now.known c.look-of.result.now
    c.self.invariant c.look-of.ensures.has c.look-of.ensures.handle

pub invariant_of-self-2 : goal.invariant_of-self-2
invariant_of-self-2 g c =
    let o = g.D.Domain.opened in let d = c.self.inside.desk in let e = c.share_weak.new.desk in let p = c.self.inside.pile in
    let cs = c.self.inside.claims.entries in
    let h = c.in_ok-handle.handle in let of = c.look-of.result.now in let says = c.in_ok-handle.ensures in
    more_kept o d e p cs c.look-of.new.claims.entries c.register.new.claims.entries (held.Weak h) c.register.result.known c.self.invariant
    c.assert_invariant.ensures (by_weak_share d of.block of.place e says.event) says.keeps
    (says.bag ∙ sym (weak_bag of.block of.place h.block h.place (bag_of d) says.handle.0 says.handle.1))
    says.held c.look-of.ensures.claims c.register.ensures.claims c.register.ensures.known

pub returns-clause-one : goal.returns-clause-one
returns-clause-one g c =
    let o = g.D.Domain.opened in let d = c.self.inside.desk in let e = c.share_weak.new.desk in let p = c.self.inside.pile in
    let cs = c.self.inside.claims.entries in
    let h = c.in_ok-handle.handle in let of = c.look-of.result.now in let says = c.in_ok-handle.ensures in
    of_one o d e p p cs c.args.of.now.at c.args.of.now.known c.register.result.known (held.Weak h) c.self.invariant
    c.look-of.ensures.has (by_weak_share d of.block of.place e says.event)
    c.register.ensures.known (says.handle.0 ∙ ap block_of (sym c.look-of.ensures.handle))

pub returns-in_err-handle-clause-refused : goal.returns-in_err-handle-clause-refused
returns-in_err-handle-clause-refused g c =
    let o = g.D.Domain.opened in let d = c.self.inside.desk in let says = c.in_err-handle.ensures in
    passed_on _ _ c.in_err-handle.field-0.0 (c.from_residual.ensures.1) (
      says.refused.0,
      was o d c.self.inside.pile c.self.inside.claims.entries c.args.of.now.at c.args.of.now.known c.self.invariant c.look-of.ensures.has (says.limit.0 refl),
    )

pub returns-clause-came : goal.returns-clause-came
returns-clause-came g c =
    let o = g.D.Domain.opened in let d = c.self.inside.desk in let e = c.share_weak.new.desk in
    since o d e c.self.inside.pile c.self.inside.claims.entries c.args.of.now.at c.args.of.now.known c.self.invariant c.look-of.ensures.has
    (shares_weakly_now d d e c.args.of.now.known c.register.result.known (held.Weak c.look-of.result.now) (held.Weak c.in_ok-handle.handle)
    c.look-of.ensures.handle c.in_ok-handle.ensures.event c.register.ensures.known refl)
