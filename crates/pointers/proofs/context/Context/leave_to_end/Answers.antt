use Rattle.std.proofs.Common.{[], ◌∷◌, subst}
use Rattle.pointers.proofs.Prelude.{Held, IsWhole, IsWholeBeside}
use Rattle.control_block.specs.declared.handles.Held.TheVariants as held
use Rattle.pointers.proofs.Handles.{owner_held}
use Rattle.pointers.proofs.InHand.{bears_more, claim_ends, leaves_by, whole_again}
use Rattle.pointers.proofs.context.Context.leave_to_end.Goals as goal

pub drop_to_end-gone-requires-clause-holds : goal.drop_to_end-gone-requires-clause-holds
drop_to_end-gone-requires-clause-holds g c =
    owner_held g.D.Domain.opened c.self.inside.desk c.self.inside.pile c.self.inside.claims.entries c.args.owner.at c.args.owner.known c.leave-owner.result
    c.self.invariant c.leave-owner.ensures.has c.leave-owner.ensures.handle

pub invariant_of-self : goal.invariant_of-self
invariant_of-self g c =
    let o = g.D.Domain.opened in let d = c.self.inside.desk in let t = c.drop_to_end-gone in let e = t.new.desk in
    let p = c.self.inside.pile in let q = t.new.pile in let ds = c.leave-owner.new.claims.entries in let says = t.ensures in
    let h = held.Owner c.leave-owner.result in
    let w = subst (λ (x : Held). IsWholeBeside o d p (x ∷ []) ds) c.leave-owner.ensures.handle
    (claim_ends o d p c.self.inside.claims.entries ds c.args.owner.at c.args.owner.known c.self.invariant c.leave-owner.ensures.has
    c.leave-owner.ensures.claims) in
    whole_again o e q ds
    (leaves_by o d e p q h [] ds w says.parting.goes says.desk.allowance says.latest
    (bears_more o c.args.domain.now d e p q (h ∷ []) ds w c.requires says.carries says.elsewhere) says.bag says.held)

pub invariant_of-self-2 : goal.invariant_of-self-2
invariant_of-self-2 g c =
    let o = g.D.Domain.opened in let d = c.self.inside.desk in let t = c.drop_to_end-gone in let e = t.new.desk in
    let p = c.self.inside.pile in let q = t.new.pile in let ds = c.leave-owner.new.claims.entries in let says = t.ensures in
    let h = held.Owner c.leave-owner.result in
    let w = subst (λ (x : Held). IsWholeBeside o d p (x ∷ []) ds) c.leave-owner.ensures.handle
    (claim_ends o d p c.self.inside.claims.entries ds c.args.owner.at c.args.owner.known c.self.invariant c.leave-owner.ensures.has
    c.leave-owner.ensures.claims) in
    whole_again o e q ds
    (leaves_by o d e p q h [] ds w says.parting.goes says.desk.allowance says.latest
    (bears_more o c.args.domain.now d e p q (h ∷ []) ds w c.requires says.carries says.elsewhere) says.bag says.held)
