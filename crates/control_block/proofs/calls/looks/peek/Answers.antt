use Rattle.std.proofs.Common.{◌+◌, sym, refl, ap, ◌∙◌, subst, arith}
use Rattle.control_block.proofs.Prelude.{DeskNow, IsTold, object_in}
use Rattle.control_block.proofs.desks.DeskBlocks.{near_block}
use Rattle.control_block.proofs.desks.Near.{near_in, near_word}
use Rattle.control_block.proofs.calls.looks.peek.Goals as goal

pub peek-requires-clause-near : goal.peek-requires-clause-near
peek-requires-clause-near g c = near_in c.desk.inside c.args.desk.now c.args.block.0 c.desk.invariant c.desk.view_is c.requires.near

pub peek-requires-clause-word : goal.peek-requires-clause-word
peek-requires-clause-word g c =
    let low = c.requires.word in
    let w = near_word c.desk.inside c.domain.inside.table.shared.table_id c.args.block.0 (2 + c.args.word) c.desk.invariant
    (ap (λ z. z.domain) c.desk.view_is ∙ (c.requires.domain.table ∙ sym (ap (λ z. z.id) c.domain.view_is)))
    (near_in c.desk.inside c.args.desk.now c.args.block.0 c.desk.invariant c.desk.view_is c.requires.near) (omega arith) in
    (w.0, low, refl, w.1)

pub returns-clause-told : goal.returns-clause-told
returns-clause-told g c =
    subst (λ (z : DeskNow g.row.V.Denot). IsTold c.args.word (object_in z c.args.block.0) c.peek.result) c.desk.view_is c.peek.ensures.told

pub returns-clause-block : goal.returns-clause-block
returns-clause-block g c =
    near_block c.desk.inside c.desk.invariant c.args.block.0
    (near_in c.desk.inside c.args.desk.now c.args.block.0 c.desk.invariant c.desk.view_is c.requires.near)
