use Rattle.std.proofs.Common.{ℕ, bit_and}
use Rattle.control_block.proofs.Prelude.{bit_not, w64}
use Rattle.control_block.proofs.kept.Summary.{allows_summary}
use Rattle.control_block.proofs.steps.summary.clear.Goals as goal

pub fetch_and-requires : goal.fetch_and-requires
fetch_and-requires g c =
    let r = c.requires in let table = c.args.table.now in let seat = c.args.seat.now in
    let f = λ (n : ℕ). bit_and n (bit_not w64 c.args.bits) in (
      r.table,
      r.place.1,
      record { allows = allows_summary table.key table.table_id.slots seat.id c.args.place f seat.me r.rests r.place.0 },
    )
