use Rattle.std.proofs.Common.{sym, ◌∙◌}
use Rattle.control_block.proofs.kept.CellLook.{allows_load_empty, slots_kept}
use Rattle.control_block.proofs.steps.cells.look.Goals as goal

pub load-requires : goal.load-requires
load-requires g c =
    let r = c.requires in let table = c.args.table.now in let seat = c.args.seat.now in
    (r.table, r.word, record { allows = allows_load_empty table.key table.table_id.slots seat.id c.args.word g.A.CellArgs.cell seat.me r.rests r.cell })

pub of_bits-requires : goal.of_bits-requires
of_bits-requires g c = c.load.ensures.2.0

pub returns-clause-seat : goal.returns-clause-seat
returns-clause-seat g c =
    let t = c.load.ensures in let u = c.of_bits.ensures in let q = t.2.1 c.of_bits.result u.valid (sym u.bits) in
    (t.0, t.1, slots_kept g.A.CellArgs.cell c.of_bits.result c.args.seat.now.me c.load.new.seat.me _ q.1 q.2 ∙ c.requires.rests.none)

pub returns-clause-event : goal.returns-clause-event
returns-clause-event g c =
    λ none. let u = c.of_bits.ensures in ((c.load.ensures.2.1 c.of_bits.result u.valid (sym u.bits)).1 none).0

pub returns-clause-held : goal.returns-clause-held
returns-clause-held g c = let u = c.of_bits.ensures in (c.load.ensures.2.1 c.of_bits.result u.valid (sym u.bits)).0

pub returns-clause-same : goal.returns-clause-same
returns-clause-same g c =
    λ some'. let u = c.of_bits.ensures in (c.load.ensures.2.1 c.of_bits.result u.valid (sym u.bits)).2 some'
