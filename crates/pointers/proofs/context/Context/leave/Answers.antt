use Rattle.std.proofs.Common.{ap, refl, subst, sym}
use Rattle.control_block.specs.declared.handles.Held.TheVariants as held
use Rattle.shared_handle.specs.Piles.{Drops}
use Rattle.pointers.specs.Known.{owned, pointed}
use Rattle.pointers.specs.Whole.{ContextNow}
use Rattle.pointers.proofs.Calls.{by_drop}
use Rattle.pointers.proofs.HandCalls.{leaves_now}
use Rattle.pointers.proofs.Handles.{bears_pile, less, owner_held, since}
use Rattle.pointers.proofs.Prelude.{block_of, Held, place_of}
use Rattle.pointers.proofs.context.Context.leave.Goals as goal

pub drop_shared-requires-clause-holds : goal.drop_shared-requires-clause-holds
drop_shared-requires-clause-holds g c =
    owner_held g.D.Domain.opened c.self.inside.desk c.self.inside.pile c.self.inside.claims.entries c.args.owner.at c.args.owner.known c.leave-owner.result
    c.self.invariant c.leave-owner.ensures.has c.leave-owner.ensures.handle

pub invariant_of-self : goal.invariant_of-self
invariant_of-self g c =
    let o = g.D.Domain.opened in let d = c.self.inside.desk in let e = c.drop_shared.new.desk in let p = c.self.inside.pile in let q = c.drop_shared.new.pile in
    less o d e p q c.self.inside.claims.entries c.leave-owner.new.claims.entries c.args.owner.at c.args.owner.known (held.Owner c.leave-owner.result)
    c.self.invariant c.leave-owner.ensures.has c.leave-owner.ensures.handle (by_drop d _ _ _ _ e _ c.drop_shared.ensures.left)
    (bears_pile o c.args.domain.now d e p q c.self.inside.claims.entries c.self.invariant c.requires c.drop_shared.ensures.carries
    c.drop_shared.ensures.elsewhere)
    c.drop_shared.ensures.bag c.drop_shared.ensures.held c.leave-owner.ensures.claims

pub returns-clause-since : goal.returns-clause-since
returns-clause-since g c =
    let o = g.D.Domain.opened in let d = c.self.inside.desk in let e = c.drop_shared.new.desk in let p = c.self.inside.pile in
    let q = c.drop_shared.new.pile in let known = c.args.owner.known in let gone = c.drop_shared.result in
    let left = subst (λ (h : Held). Drops d p.endings.items (block_of h) (place_of h) gone e q.endings.items) (sym c.leave-owner.ensures.handle)
    c.drop_shared.ensures.left in
    since o d e p c.self.inside.claims.entries c.args.owner.at known c.self.invariant c.leave-owner.ensures.has (
      subst (λ (x : ContextNow g.row.D-Value.Denot). Drops d x.endings (owned known) (pointed known) gone e q.endings.items) c.self.view_is left,
      refl,
    )

pub returns-clause-exact : goal.returns-clause-exact
returns-clause-exact g c =
    leaves_now c.args.self.now.desk c.self.inside.desk c.drop_shared.new.desk c.args.owner.known c.leave-owner.result _ _ _ c.leave-owner.ensures.handle
    c.drop_shared.ensures.left (ap (λ (x : ContextNow g.row.D-Value.Denot). x.desk) c.self.view_is)
