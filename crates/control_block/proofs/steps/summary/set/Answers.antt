use Rattle.std.proofs.Common.{bit_or}
use Rattle.control_block.proofs.kept.Summary.{allows_summary}
use Rattle.control_block.proofs.steps.summary.set.Goals as goal

pub fetch_or-requires : goal.fetch_or-requires
fetch_or-requires g c =
    let r = c.requires in let table = c.args.table.now in let seat = c.args.seat.now in (
      r.table,
      r.place.1,
      record { allows = allows_summary table.key table.table_id.slots seat.id c.args.place (λ n. bit_or n c.args.bits) seat.me r.rests r.place.0 },
    )
