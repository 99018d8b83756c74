use Rattle.std.proofs.Common.{◌%◌, ◌==◌, refl, sym, ◌∙◌, subst}
use Rattle.control_block.proofs.Prelude.{blocks_of, known, Same, tells}
use Rattle.control_block.proofs.kept.CellSame.{allows_same, shown_bits}
use Rattle.control_block.proofs.steps.cells.holds.Goals as goal
use Rattle.std.proofs.Common.{ℕ, ◌≡◌}
use Rattle.control_word.specs.HandleWords.{cell_of_handle}

pub load-requires : goal.load-requires
load-requires g c =
    let r = c.requires in let table = c.args.table.now in let seat = c.args.seat.now in let a = g.A.CellArgs in (
      r.table,
      r.word,
      record { allows = allows_same table.key table.table_id.slots seat.id c.args.word a.cell a.expected seat.me r.rests r.cell r.hand },
    )

pub returns-clause-event : goal.returns-clause-event
returns-clause-event g c =
    let v = c.args.seat.now.me.0 in let a = g.A.CellArgs in let r = c.requires.expected in
    let word = shown_bits (blocks_of (known v)) a.expected (cell_of_handle c.args.expected) r refl ∙ sym c.bits.ensures in
    subst (λ (n : ℕ × ℕ). tells (Same a.cell a.expected (n.0 == n.1)) v c.load.new.seat.me.0) (λ i. (sym c.with_none_taken.ensures i, word i))
    c.load.ensures.2.0
