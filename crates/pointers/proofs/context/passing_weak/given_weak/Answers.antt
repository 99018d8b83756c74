use Rattle.std.proofs.Common.{[], ◌∷◌, subst}
use Rattle.pointers.proofs.Prelude.{Held, IsWholeBeside}
use Rattle.control_block.specs.declared.handles.Held.TheVariants as held
use Rattle.pointers.proofs.InHand.{claim_ends, comes_empty, nothing_beside}
use Rattle.pointers.proofs.context.passing_weak.given_weak.Goals as goal

pub returns-in-Some-clause-hand : goal.returns-in-Some-clause-hand
returns-in-Some-clause-hand g c =
    let o = g.D.Domain.opened in let d = c.args.desk.now in let p = c.args.pile.now in let cs = c.args.claims.now.entries in
    let ds = c.leave.new.claims.entries in
    let says = c.leave.ensures in
    subst (λ (h : Held). IsWholeBeside o d p (h ∷ []) ds) says.handle
    (claim_ends o d p cs ds c.in-Some.new.at c.in-Some.new.known c.requires.whole says.has says.claims)

pub returns-in_ok-none-in-None-clause-hand : goal.returns-in_ok-none-in-None-clause-hand
returns-in_ok-none-in-None-clause-hand g c =
    let o = g.D.Domain.opened in let d = c.args.desk.now in let e = c.empty_weak.new.desk in let p = c.args.pile.now in let cs = c.args.claims.now.entries in
    let h = held.Weak c.in_ok-none-in-None.none in let says = c.in_ok-none-in-None.ensures in
    comes_empty o d e p h [] cs (nothing_beside o d p cs c.requires.whole) c.assert_invariant.ensures says.counted says.handle.0
