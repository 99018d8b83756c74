use Rattle.std.proofs.Common.{[], ◌∷◌}
use Rattle.control_block.specs.declared.handles.Held.TheVariants as held
use Rattle.pointers.proofs.Calls.{by_drop}
use Rattle.pointers.proofs.InHand.{bears_more, claim_begins, in_hand, leaves, whole_again}
use Rattle.pointers.proofs.context.passing.arrived.Goals as goal

pub drop_shared-gone-requires-clause-holds : goal.drop_shared-gone-requires-clause-holds
drop_shared-gone-requires-clause-holds g c =
    in_hand g.D.Domain.opened c.args.desk.now c.args.pile.now (held.Owner c.args.handle) [] c.args.claims.now.entries c.requires.hand

pub returns-then-is_empty-clause-whole : goal.returns-then-is_empty-clause-whole
returns-then-is_empty-clause-whole g c =
    let o = g.D.Domain.opened in let d = c.args.desk.now in let e = c.drop_shared-gone.new.desk in let p = c.args.pile.now in
    let q = c.drop_shared-gone.new.pile in
    let cs = c.args.claims.now.entries in let h = held.Owner c.args.handle in let says = c.drop_shared-gone.ensures in
    whole_again o e q cs
    (leaves o d e p q h [] cs c.requires.hand (by_drop d _ _ _ _ e _ says.left)
    (bears_more o c.args.domain.now d e p q (h ∷ []) cs c.requires.hand c.requires.domain says.carries says.elsewhere) says.bag says.held)

pub returns-clause-whole : goal.returns-clause-whole
returns-clause-whole g c =
    claim_begins g.D.Domain.opened c.args.desk.now c.args.pile.now c.args.claims.now.entries c.register.new.claims.entries (held.Owner c.args.handle)
    c.register.result.known c.requires.hand c.register.ensures.claims c.register.ensures.known
