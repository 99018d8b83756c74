use Rattle.std.proofs.Common.{List, [], ◌∷◌, ◌++◌, Some, Option, refl, ap, ◌∙◌}
use Rattle.pointers.proofs.Prelude.{Known}
use Rattle.control_block.specs.declared.handles.Held.TheVariants as held
use Rattle.pointers.proofs.HandCompares.{room_left}
use Rattle.pointers.proofs.Handles.{passed_on, was_at}
use Rattle.pointers.proofs.InHand.{claim_begins, comes_empty, nothing_beside}
use Rattle.pointers.proofs.context.Context.empty_owner.Goals as goal

pub invariant_of-self-2 : goal.invariant_of-self-2
invariant_of-self-2 g c =
    let o = g.D.Domain.opened in let d = c.self.inside.desk in let e = c.empty.new.desk in let p = c.self.inside.pile in
    let cs = c.self.inside.claims.entries in let h = held.Owner c.in_ok-handle.handle in let says = c.in_ok-handle.ensures in
    let x = c.register.result.known in
    claim_begins o e p cs c.register.new.claims.entries h x
    (comes_empty o d e p h [] cs (nothing_beside o d p cs c.self.invariant) c.assert_invariant.ensures says.counted says.handle.0)
    (c.register.ensures.claims ∙ ap (λ (l : List (Option (Known g.row.D-Value.Denot))). l ++ Some x ∷ []) c.look_at.ensures.claims) c.register.ensures.known

pub returns-in_err-handle-clause-refused : goal.returns-in_err-handle-clause-refused
returns-in_err-handle-clause-refused g c =
    let o = g.D.Domain.opened in let d = c.self.inside.desk in let says = c.in_err-handle.ensures in
    let was = was_at o d c.self.inside.pile c.self.inside.claims.entries _ c.self.invariant c.look_at.ensures.has (says.limit.0 refl) in
    passed_on _ _ c.in_err-handle.field-0.0 c.from_residual.ensures.1 (says.refused.0, was)

pub returns-clause-room : goal.returns-clause-room
returns-clause-room g c =
    let says = c.in_ok-handle.ensures in
    room_left c.self.inside.desk c.empty.new.desk c.assert_invariant.ensures (λ at. absurd (cc (says.limit.1 at))) says.counted
