use Rattle.std.proofs.Common.{ℕ, List, sym, ap, ◌∙◌, subst}
use Rattle.control_block.proofs.Prelude.{Block, MaySplit, NumberedHandle, SeatView}
use Rattle.control_block.proofs.cells.CellRetries.{added_awake}
use Rattle.control_block.proofs.parting.split.part.Goals as goal

pub note_split-requires-clause-table : goal.note_split-requires-clause-table
note_split-requires-clause-table g c = c.requires.table

pub note_split-requires-clause-rests : goal.note_split-requires-clause-rests
note_split-requires-clause-rests g c = c.requires.rests

pub note_split-requires-clause-word : goal.note_split-requires-clause-word
note_split-requires-clause-word g c = c.requires.word

pub note_split-requires-clause-may : goal.note_split-requires-clause-may
note_split-requires-clause-may g c =
    let r = c.requires in let p = r.picked in
    subst (λ (y : ℕ × List NumberedHandle × List Block). MaySplit c.args.seat.now.me.0 y.0 y.1 y.2) (λ i. (sym p.0 i, sym p.1 i, sym p.2 i)) r.may

pub cut-requires-clause-table : goal.cut-requires-clause-table
cut-requires-clause-table g c = c.note_split.ensures.seat.0 ∙ c.requires.table

pub cut-requires-clause-word : goal.cut-requires-clause-word
cut-requires-clause-word g c = c.requires.word

pub cut-requires-clause-parts : goal.cut-requires-clause-parts
cut-requires-clause-parts g c =
    let t = c.note_split.ensures in let a = t.event.1 in
    (added_awake c.args.seat.now.me.0 c.note_split.new.seat.me.0 _ _ a c.requires.rests.awake, ap (λ (u : SeatView g.row.V.Denot). u.hand) a.now, t.seat.2)

pub cut-requires-clause-named : goal.cut-requires-clause-named
cut-requires-clause-named g c =
    let t = c.note_split.ensures.event in (t.0, ap (λ (u : SeatView g.row.V.Denot). u.view.pending) t.1.now)

pub returns-clause-seat : goal.returns-clause-seat
returns-clause-seat g c = (c.cut.ensures.seat.0 ∙ c.note_split.ensures.seat.0, ap (λ m. m.1) c.cut.ensures.seat.2)

pub returns-clause-other : goal.returns-clause-other
returns-clause-other g c = (c.cut.ensures.other.0 ∙ c.note_split.ensures.seat.0, ap (λ m. m.1) c.cut.ensures.other.1)
