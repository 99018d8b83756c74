use Rattle.std.proofs.Common.{[], ◌∷◌}
use Rattle.control_block.specs.declared.handles.Held.TheVariants as held
use Rattle.pointers.proofs.Calls.{by_weak_leave}
use Rattle.pointers.proofs.InHand.{bears_same, claim_begins, in_hand, leaves, whole_again}
use Rattle.pointers.proofs.context.passing_weak.arrived_weak.Goals as goal

pub release_weak-requires-clause-holds : goal.release_weak-requires-clause-holds
release_weak-requires-clause-holds g c =
    in_hand g.D.Domain.opened c.args.desk.now c.args.pile.now (held.Weak c.args.handle) [] c.args.claims.now.entries c.requires.hand

pub returns-then-is_empty-clause-whole : goal.returns-then-is_empty-clause-whole
returns-then-is_empty-clause-whole g c =
    let o = g.D.Domain.opened in let d = c.args.desk.now in let e = c.release_weak.new.desk in let p = c.args.pile.now in
    let cs = c.args.claims.now.entries in let w = c.args.handle in let says = c.release_weak.ensures in
    whole_again o e p cs
    (leaves o d e p p (held.Weak w) [] cs c.requires.hand (by_weak_leave d w.block w.place says.event.0 e says.event.1)
    (bears_same o d e p (held.Weak w ∷ []) cs c.requires.hand says.desk says.endings says.count) says.bag says.held)

pub returns-clause-whole : goal.returns-clause-whole
returns-clause-whole g c =
    claim_begins g.D.Domain.opened c.args.desk.now c.args.pile.now c.args.claims.now.entries c.register.new.claims.entries (held.Weak c.args.handle)
    c.register.result.known c.requires.hand c.register.ensures.claims c.register.ensures.known
