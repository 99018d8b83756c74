use Rattle.std.proofs.Common.{ap, ◌∙◌, subst}
use Rattle.control_block.proofs.Prelude.{joined, none, step}
use Rattle.control_block.proofs.words.Seats.{joins_up}
use Rattle.control_block.proofs.kept.Join.{allows_glue, allows_join}
use Rattle.control_block.proofs.steps.seats.join.Goals as goal

pub join_seat-requires : goal.join_seat-requires
join_seat-requires g c =
    let r = c.requires in let table = c.args.table.now in let seat = c.args.seat.now in let other = c.args.other in let p = r.rests.0 in let q = r.rests.1 in
    (r.table.0, r.table.1, q.none, r.word, allows_glue table.key seat.id other.id seat.me.0 other.me.0 p.awake p.idle p.empty q.awake q.idle q.empty)

pub load-requires : goal.load-requires
load-requires g c =
    let r = c.requires in let table = c.args.table.now in let seat = c.args.seat.now in let other = c.args.other in let j = c.join_seat.ensures in (
      j.0 ∙ r.table.0,
      r.word,
      record {
        allows = allows_join table.key table.table_id.slots c.join_seat.new.seat.id 0 other.me.0.view.name seat.me.0.view.seen
            other.me.0.view.seen c.join_seat.new.seat.me
            (ap (λ m. m.0.view.spent) j.2 ∙ r.rests.0.awake) (ap (λ m. m.0.view.pending) j.2) (ap (λ m. m.0.hand) j.2);
      },
    )

pub returns-clause-event : goal.returns-clause-event
returns-clause-event g c =
    let v = c.args.seat.now.me.0 in let w = c.args.other.me.0 in let table = c.args.table.now in let st = step table.table_id.slots 0 0 0 none in
    let new = c.load.new.seat.me in
    joins_up v w new.0 st c.load.result c.args.seat.now.me.1 new.1 (subst (λ m. joined st m c.load.result new) c.join_seat.ensures.2 c.load.ensures.2)
