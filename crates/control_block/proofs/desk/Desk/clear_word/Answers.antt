use Rattle.std.proofs.Common.{◌≡◌, ◌/◌, sym, ap, ◌∙◌, arith}
use Rattle.control_block.proofs.Prelude.{desk_now}
use Rattle.control_block.proofs.desks.DeskBags.{now_of}
use Rattle.control_block.proofs.desks.DeskSummaries.{summary_inside}
use Rattle.control_block.proofs.desk.Desk.clear_word.Goals as goal

pub clear-requires-clause-table : goal.clear-requires-clause-table
clear-requires-clause-table g c =
    ap (λ z. z.domain) c.self.view_is ∙ (c.requires.domain.table ∙ sym (ap (λ z. z.id) c.domain.view_is))

pub clear-requires-clause-rests : goal.clear-requires-clause-rests
clear-requires-clause-rests g c = c.self.invariant.rests

pub clear-requires-clause-place : goal.clear-requires-clause-place
clear-requires-clause-place g c =
    summary_inside c.self.inside c.domain.inside.table.shared.table_id c.args.domain.now.shape c.summary_place-place.result
    (c.args.word / 64) c.self.invariant
    (ap (λ z. z.domain) c.self.view_is ∙ (c.requires.domain.table ∙ sym (ap (λ z. z.id) c.domain.view_is)))
    (ap (λ z. z.shape) c.self.view_is ∙ c.requires.domain.shape) c.summary_place-place.ensures (let low = c.requires.word in omega (arith, low))

pub returns : goal.returns
returns g c =
    let d = c.self.inside in let t = c.clear.ensures.seat in
    let same : now_of c.clear.new.seat.table_id c.clear.new.seat.me.0 d.held ≡ desk_now d = λ i. now_of (t.0 i) (t.2 i).0 d.held in
    record { same = same ∙ c.self.view_is }
