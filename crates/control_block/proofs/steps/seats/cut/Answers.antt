use Rattle.control_block.proofs.kept.Split.{allows_cut}
use Rattle.control_block.proofs.steps.seats.cut.Goals as goal

pub split_seat-requires : goal.split_seat-requires
split_seat-requires g c =
    let r = c.requires in let table = c.args.table.now in let seat = c.args.seat.now in
    (r.table, r.word, allows_cut table.key seat.id r.named.0 seat.me.0 r.parts.0 r.named.1 r.parts.1)
