use Rattle.std.proofs.Common.{sym}
use Rattle.control_block.proofs.kept.CellLook.{allows_peek}
use Rattle.control_block.proofs.steps.cells.peek.Goals as goal

pub load-requires : goal.load-requires
load-requires g c =
    let r = c.requires in let table = c.args.table.now in let seat = c.args.seat.now in
    (r.table, r.word, record { allows = allows_peek table.key table.table_id.slots seat.id c.args.word g.A.CellArgs.cell seat.me r.awake r.cell })

pub of_bits-requires : goal.of_bits-requires
of_bits-requires g c = c.load.ensures.2.0

pub returns-clause-seat : goal.returns-clause-seat
returns-clause-seat g c =
    let t = c.load.ensures in let u = c.of_bits.ensures in (t.0, t.1, (t.2.1 c.of_bits.result u.valid (sym u.bits)).1)

pub returns-clause-held : goal.returns-clause-held
returns-clause-held g c = let u = c.of_bits.ensures in (c.load.ensures.2.1 c.of_bits.result u.valid (sym u.bits)).0
