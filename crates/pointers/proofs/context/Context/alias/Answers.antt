use Rattle.std.proofs.Common.{sym, refl, ap, ◌∙◌}
use Rattle.pointers.proofs.Prelude.{bag_of, block_of, Owner}
use Rattle.control_block.specs.declared.handles.Held.TheVariants as held
use Rattle.pointers.proofs.Calls.{by_share}
use Rattle.pointers.proofs.Handles.{bag_by, more_kept, of_one, owner_held, passed_on, was}
use Rattle.pointers.proofs.HandCalls.{shares_now}
use Rattle.pointers.proofs.Handles.{since}
use Rattle.pointers.proofs.context.Context.alias.Goals as goal

pub alias-requires-clause-holds : goal.alias-requires-clause-holds
alias-requires-clause-holds g c =
    owner_held g.D.Domain.opened c.self.inside.desk c.self.inside.pile c.self.inside.claims.entries c.args.of.now.at c.args.of.now.known c.look-of.result.now
    c.self.invariant c.look-of.ensures.has c.look-of.ensures.handle

pub invariant_of-self-2 : goal.invariant_of-self-2
invariant_of-self-2 g c =
    let o = g.D.Domain.opened in let d = c.self.inside.desk in let e = c.alias.new.desk in let p = c.self.inside.pile in
    let cs = c.self.inside.claims.entries in
    let h = c.in_ok-handle.handle in let of = c.look-of.result.now in let says = c.in_ok-handle.ensures in
    more_kept o d e p cs c.look-of.new.claims.entries c.register.new.claims.entries (held.Owner h) c.register.result.known c.self.invariant
    c.assert_invariant.ensures (by_share d of.block of.place _ e says.event) says.keeps
    (bag_by Owner h.block of.block h.place _ (bag_of d) (bag_of e) says.handle.0 says.handle.1 says.bag)
    says.held c.look-of.ensures.claims c.register.ensures.claims c.register.ensures.known

pub returns-clause-one : goal.returns-clause-one
returns-clause-one g c =
    let o = g.D.Domain.opened in let d = c.self.inside.desk in let e = c.alias.new.desk in let p = c.self.inside.pile in
    let cs = c.self.inside.claims.entries in
    let h = c.in_ok-handle.handle in let of = c.look-of.result.now in let says = c.in_ok-handle.ensures in
    of_one o d e p p cs c.args.of.now.at c.args.of.now.known c.register.result.known (held.Owner h) c.self.invariant
    c.look-of.ensures.has (by_share d of.block of.place _ e says.event) c.register.ensures.known (says.handle.0 ∙ ap block_of (sym c.look-of.ensures.handle))

pub returns-in_err-handle-clause-refused : goal.returns-in_err-handle-clause-refused
returns-in_err-handle-clause-refused g c =
    let o = g.D.Domain.opened in let d = c.self.inside.desk in let says = c.in_err-handle.ensures in
    passed_on _ _ c.in_err-handle.field-0.0 (c.from_residual.ensures.1) (
      says.refused.0,
      was o d c.self.inside.pile c.self.inside.claims.entries c.args.of.now.at c.args.of.now.known c.self.invariant c.look-of.ensures.has (says.limit.0 refl),
    )

pub returns-clause-came : goal.returns-clause-came
returns-clause-came g c =
    let o = g.D.Domain.opened in let d = c.self.inside.desk in let e = c.alias.new.desk in let says = c.in_ok-handle.ensures in
    since o d e c.self.inside.pile c.self.inside.claims.entries c.args.of.now.at c.args.of.now.known c.self.invariant c.look-of.ensures.has
    (shares_now d d e c.args.of.now.known c.register.result.known c.look-of.result.now c.in_ok-handle.handle _ c.look-of.ensures.handle says.event
    says.handle.1 c.register.ensures.known refl)
