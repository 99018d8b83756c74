use Rattle.std.proofs.Common.{refl, sym, ◌∙◌}
use Rattle.control_block.proofs.kept.Swap.{allows_swap}
use Rattle.control_block.proofs.steps.cells.swap.Goals as goal
use Rattle.control_word.specs.HandleWords.{cell_of_handle}

pub swap-requires : goal.swap-requires
swap-requires g c =
    let r = c.requires in let table = c.args.table.now in let seat = c.args.seat.now in let a = g.A.CellArgs in let slots = table.table_id.slots in
    let i = c.args.word in let n = c.bits.result in let me = seat.me in (
      r.table,
      r.word,
      record {
        allows = allows_swap table.key slots seat.id i n a.cell a.new (cell_of_handle c.args.new) me r.rests r.cell r.new.1 refl r.hand r.room
            c.bits.ensures;
      },
    )

pub of_bits-requires : goal.of_bits-requires
of_bits-requires g c = c.swap.ensures.2.0

pub returns-clause-seat : goal.returns-clause-seat
returns-clause-seat g c =
    let t = c.swap.ensures in let u = c.of_bits.ensures in (t.0, t.1, (t.2.1 c.of_bits.result u.valid (sym u.bits)).1 ∙ c.requires.rests.none)

pub returns-clause-gave : goal.returns-clause-gave
returns-clause-gave g c = let t = c.swap.ensures in let u = c.of_bits.ensures in (t.2.1 c.of_bits.result u.valid (sym u.bits)).0
