use Rattle.pointers.proofs.Prelude.{bears_kept, domain_of}
use Rattle.control_block.specs.declared.handles.Held.TheVariants as held
use Rattle.pointers.proofs.Calls.{by_weak_leave}
use Rattle.pointers.proofs.Handles.{less, weak_held}
use Rattle.pointers.proofs.context.Context.leave_weak.Goals as goal

pub release_weak-requires-clause-holds : goal.release_weak-requires-clause-holds
release_weak-requires-clause-holds g c =
    weak_held g.D.Domain.opened c.self.inside.desk c.self.inside.pile c.self.inside.claims.entries c.args.weak.at c.args.weak.known c.leave-weak.result
    c.self.invariant c.leave-weak.ensures.has c.leave-weak.ensures.handle

pub invariant_of-self : goal.invariant_of-self
invariant_of-self g c =
    let o = g.D.Domain.opened in let d = c.self.inside.desk in let e = c.release_weak.new.desk in let p = c.self.inside.pile in
    let says = c.release_weak.ensures in
    let w = c.leave-weak.result in
    less o d e p p c.self.inside.claims.entries c.leave-weak.new.claims.entries c.args.weak.at c.args.weak.known (held.Weak w)
    c.self.invariant c.leave-weak.ensures.has c.leave-weak.ensures.handle (by_weak_leave d w.block w.place says.event.0 e says.event.1)
    (bears_kept (domain_of o) d e p c.self.invariant.bears says.desk.domain says.desk.shape says.endings says.count)
    says.bag says.held c.leave-weak.ensures.claims
