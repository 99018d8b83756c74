use Rattle.std.proofs.Common.{sym, ◌∙◌, subst}
use Rattle.control_block.proofs.Prelude.{Belongs, DeskNow, IsTold, object_in}
use Rattle.control_block.proofs.desks.Near.{four_told}
use Rattle.control_block.specs.Desks.{IsNear}
use Rattle.control_block.proofs.calls.looks.fields.Goals as goal

pub peek-requires-clause-domain : goal.peek-requires-clause-domain
peek-requires-clause-domain g c = c.requires.domain

pub peek-requires-clause-near : goal.peek-requires-clause-near
peek-requires-clause-near g c = c.requires.near

pub peek-requires-2-clause-domain : goal.peek-requires-2-clause-domain
peek-requires-2-clause-domain g c = subst (λ (z : DeskNow g.row.V.Denot). Belongs z c.args.domain.now) (sym (c.peek.ensures.same)) c.requires.domain

pub peek-requires-2-clause-near : goal.peek-requires-2-clause-near
peek-requires-2-clause-near g c = subst (λ (z : DeskNow g.row.V.Denot). IsNear z c.args.block.0) (sym (c.peek.ensures.same)) c.requires.near

pub peek-requires-3-clause-domain : goal.peek-requires-3-clause-domain
peek-requires-3-clause-domain g c = subst (λ (z : DeskNow g.row.V.Denot). Belongs z c.args.domain.now) (sym
    (c.peek-2.ensures.same ∙ c.peek.ensures.same)) c.requires.domain

pub peek-requires-3-clause-near : goal.peek-requires-3-clause-near
peek-requires-3-clause-near g c = subst (λ (z : DeskNow g.row.V.Denot). IsNear z c.args.block.0) (sym
    (c.peek-2.ensures.same ∙ c.peek.ensures.same)) c.requires.near

pub peek-requires-4-clause-domain : goal.peek-requires-4-clause-domain
peek-requires-4-clause-domain g c = subst (λ (z : DeskNow g.row.V.Denot). Belongs z c.args.domain.now) (sym (c.peek-3.ensures.same ∙
    (c.peek-2.ensures.same ∙ c.peek.ensures.same))) c.requires.domain

pub peek-requires-4-clause-near : goal.peek-requires-4-clause-near
peek-requires-4-clause-near g c = subst (λ (z : DeskNow g.row.V.Denot). IsNear z c.args.block.0) (sym (c.peek-3.ensures.same ∙
    (c.peek-2.ensures.same ∙ c.peek.ensures.same))) c.requires.near

pub returns-clause-fields : goal.returns-clause-fields
returns-clause-fields g c = λ k low.
    let b = c.args.block.0 in let y = c.args.desk.now in
    four_told (object_in y b).fields c.peek.result c.peek-2.result c.peek-3.result c.peek-4.result c.peek.ensures.told
    (subst (λ (z : DeskNow g.row.V.Denot). IsTold 2 (object_in z b) c.peek-2.result) (c.peek.ensures.same) c.peek-2.ensures.told)
    (subst (λ (z : DeskNow g.row.V.Denot). IsTold 3 (object_in z b) c.peek-3.result) (c.peek-2.ensures.same ∙ c.peek.ensures.same) c.peek-3.ensures.told)
    (subst (λ (z : DeskNow g.row.V.Denot). IsTold 4 (object_in z b) c.peek-4.result) (c.peek-3.ensures.same ∙
    (c.peek-2.ensures.same ∙ c.peek.ensures.same)) c.peek-4.ensures.told) k low

pub returns-clause-same : goal.returns-clause-same
returns-clause-same g c = c.peek-4.ensures.same ∙ (c.peek-3.ensures.same ∙ (c.peek-2.ensures.same ∙ c.peek.ensures.same))
