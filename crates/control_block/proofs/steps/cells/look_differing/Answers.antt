use Rattle.std.proofs.Common.{None, sym, ◌∙◌}
use Rattle.control_block.proofs.Prelude.{equivalent, handle, kind_in}
use Rattle.control_block.proofs.kept.CellDiffer.{allows_differ_empty, slots_differed}
use Rattle.control_block.proofs.steps.cells.look_differing.Goals as goal

pub load-requires : goal.load-requires
load-requires g c =
    let r = c.requires in let table = c.args.table.now in let seat = c.args.seat.now in let a = g.A.CellArgs in (
      r.table,
      r.word,
      record {
        allows = allows_differ_empty table.key table.table_id.slots seat.id c.args.word a.cell a.expected a.new a.weak seat.me r.rests
            r.cell r.expected r.hand;
      },
    )

pub of_bits-requires : goal.of_bits-requires
of_bits-requires g c = c.load.ensures.2.0

pub returns-clause-seat : goal.returns-clause-seat
returns-clause-seat g c =
    let t = c.load.ensures in let u = c.of_bits.ensures in let x = c.of_bits.result in let q = t.2.1 x u.valid (sym u.bits) in let me = c.args.seat.now.me in
    let b = equivalent (handle (kind_in me.0.shape g.A.CellArgs.cell) None x.place) g.A.CellArgs.expected in
    (t.0, t.1, slots_differed x me c.load.new.seat.me _ b q.1 q.2 q.3 ∙ c.requires.rests.none)

pub returns-clause-event : goal.returns-clause-event
returns-clause-event g c =
    λ bare differs. let u = c.of_bits.ensures in ((c.load.ensures.2.1 c.of_bits.result u.valid (sym u.bits)).1 bare differs).0

pub returns-clause-alike : goal.returns-clause-alike
returns-clause-alike g c =
    λ bare same. let u = c.of_bits.ensures in (c.load.ensures.2.1 c.of_bits.result u.valid (sym u.bits)).2 bare same

pub returns-clause-held : goal.returns-clause-held
returns-clause-held g c = let u = c.of_bits.ensures in (c.load.ensures.2.1 c.of_bits.result u.valid (sym u.bits)).0

pub returns-clause-same : goal.returns-clause-same
returns-clause-same g c =
    λ some'. let u = c.of_bits.ensures in (c.load.ensures.2.1 c.of_bits.result u.valid (sym u.bits)).3 some'
