use Rattle.std.proofs.Common.{◌≡◌, sym, ap, ◌∙◌, arith}
use Rattle.control_block.proofs.Prelude.{desk_now}
use Rattle.control_block.proofs.desks.DeskBags.{now_of}
use Rattle.control_block.proofs.desks.DeskSummaries.{summary_inside}
use Rattle.control_block.proofs.desk.Desk.look_at_summary.Goals as goal

pub look-requires-clause-table : goal.look-requires-clause-table
look-requires-clause-table g c =
    ap (λ z. z.domain) c.self.view_is ∙ (c.requires.domain.table ∙ sym (ap (λ z. z.id) c.domain.view_is))

pub look-requires-clause-rests : goal.look-requires-clause-rests
look-requires-clause-rests g c = c.self.invariant.rests

pub look-requires-clause-place : goal.look-requires-clause-place
look-requires-clause-place g c =
    (summary_inside c.self.inside c.domain.inside.table.shared.table_id c.args.domain.now.shape c.summary_place-place.result
    c.args.row c.self.invariant
    (ap (λ z. z.domain) c.self.view_is ∙ (c.requires.domain.table ∙ sym (ap (λ z. z.id) c.domain.view_is)))
    (ap (λ z. z.shape) c.self.view_is ∙ c.requires.domain.shape) c.summary_place-place.ensures c.requires.row).1

pub returns-clause-few : goal.returns-clause-few
returns-clause-few g c =
    let shape = ap (λ z. z.shape.blocks) c.self.view_is ∙ ap (λ y. y.blocks) c.requires.domain.shape in
    let most = c.self.invariant.limits.blocks in omega (arith, shape, most)

pub returns-clause-same : goal.returns-clause-same
returns-clause-same g c =
    let d = c.self.inside in let t = c.look.ensures.seat in
    let same : now_of c.look.new.seat.table_id c.look.new.seat.me.0 d.held ≡ desk_now d = λ i. now_of (t.0 i) (t.2 i).0 d.held in
    same ∙ c.self.view_is
