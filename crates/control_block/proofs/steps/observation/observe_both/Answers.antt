use Rattle.std.proofs.Common.{sym, ◌∙◌, subst, arith}
use Rattle.control_block.proofs.Prelude.{At, first_again, Observed, Ruled, second_again, Splits}
use Rattle.control_block.proofs.kept.Join.{allows_glue}
use Rattle.control_block.proofs.kept.Observation.{allows_unglue, told_both}
use Rattle.control_block.proofs.steps.observation.observe_both.Goals as goal

pub join_seat-requires : goal.join_seat-requires
join_seat-requires g c =
    let r = c.requires in let table = c.args.table.now in let seat = c.args.seat.now in let other = c.args.other in let p = r.rests.0 in let q = r.rests.1 in (
      r.table.0,
      r.table.1,
      q.none,
      omega (arith, r.word),
      allows_glue table.key seat.id other.id seat.me.0 other.me.0 p.awake p.idle p.empty q.awake q.idle q.empty,
    )

pub split_seat-other-requires : goal.split_seat-other-requires
split_seat-other-requires g c =
    let r = c.requires in let table = c.args.table.now in let seat = c.observe-found.new.seat in
    let e = c.observe-found.ensures.seat.2 ∙ c.join_seat.ensures.2 in (
      c.observe-found.ensures.seat.0 ∙ (c.join_seat.ensures.0 ∙ r.table.0),
      omega (arith, r.word),
      subst (λ (m : At g.row.V.Denot). Splits (Ruled table.key) seat.id m.0 (first_again m.0) (second_again m.0)) (sym e)
          (allows_unglue table.key seat.id c.args.seat.now.me.0 c.args.other.me.0 r.rests.0.awake),
    )

pub returns-clause-told : goal.returns-clause-told
returns-clause-told g c =
    let r = c.requires in let v = c.args.seat.now.me.0 in let w = c.args.other.me.0 in
    told_both v w c.args.word c.observe-found.result r.rests.0.awake r.rests.0.idle r.rests.1.awake r.rests.1.idle
    (subst (λ (m : At g.row.V.Denot). Observed m.0 c.args.word c.observe-found.result) c.join_seat.ensures.2 c.observe-found.ensures.told)
