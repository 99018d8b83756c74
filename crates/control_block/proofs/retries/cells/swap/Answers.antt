use Rattle.std.proofs.Common.{◌-◌, sym, ◌∙◌, subst}
use Rattle.control_block.proofs.Prelude.{Gave, InHand, IsSized, Kind, known, Swap, TableId}
use Rattle.control_block.proofs.cells.CellRetries.{gave_counted, added_owes, given_back}
use Rattle.control_block.proofs.cells.CellTrades.{swap_trades}
use Rattle.control_block.proofs.retries.cells.swap.Goals as goal

pub settle-requires-clause-count : goal.settle-requires-clause-count
settle-requires-clause-count g c =
    let a = g.A.CellArgs in let r = c.requires in
    gave_counted (λ h. Swap a.cell a.new h) c.args.kind c.args.seat.now.me.0 c.swap-old.new.seat.me.0 c.swap-old.result a.new
    c.args.table.now.table_id (swap_trades g.row.V.Denot a.cell a.new) (subst (λ (y : Kind). Gave (λ h. Swap a.cell a.new h) y c.args.seat.now.me.0
    c.swap-old.result c.swap-old.new.seat.me.0) (sym r.cell.1)
    c.swap-old.ensures.gave)
    (subst (λ (y : TableId). IsSized y c.args.seat.now.me.0.shape) r.table.0 r.table.1)

pub swap-old-requires-clause-rests : goal.swap-old-requires-clause-rests
swap-old-requires-clause-rests g c = c.requires.rests

pub swap-old-requires-clause-word : goal.swap-old-requires-clause-word
swap-old-requires-clause-word g c = c.requires.word

pub swap-old-requires-clause-cell : goal.swap-old-requires-clause-cell
swap-old-requires-clause-cell g c = c.requires.cell.0

pub swap-old-requires-clause-new : goal.swap-old-requires-clause-new
swap-old-requires-clause-new g c = c.requires.new

pub swap-old-requires-clause-hand : goal.swap-old-requires-clause-hand
swap-old-requires-clause-hand g c =
    let v = c.args.seat.now.me.0 in subst (λ (y : Kind). InHand (known v) v.view.name y g.A.CellArgs.new) c.requires.cell.1 c.requires.hand

pub swap-old-requires-clause-room : goal.swap-old-requires-clause-room
swap-old-requires-clause-room g c = c.requires.room

pub swap-old-requires-clause-table : goal.swap-old-requires-clause-table
swap-old-requires-clause-table g c = c.requires.table.0

pub settle-requires-clause-table : goal.settle-requires-clause-table
settle-requires-clause-table g c = c.swap-old.ensures.seat.0 ∙ c.requires.table.0

pub settle-requires-clause-owes : goal.settle-requires-clause-owes
settle-requires-clause-owes g c =
    let t = c.swap-old.ensures.gave in let me = c.swap-old.new.seat.me in (
      t.old,
      t.kind ∙ sym c.requires.cell.1,
      added_owes c.args.seat.now.me.0 me _ _ t.event c.requires.rests.awake c.swap-old.ensures.seat.2,
    )

pub returns-clause-seat : goal.returns-clause-seat
returns-clause-seat g c =
    let s = c.settle.ensures.seat in let e = c.swap-old.ensures.seat in (s.0 ∙ e.0, s.1 ∙ e.1, s.2)

pub returns-clause-cell : goal.returns-clause-cell
returns-clause-cell g c = c.swap-old.ensures.cell

pub returns-clause-swapped : goal.returns-clause-swapped
returns-clause-swapped g c =
    let a = g.A.CellArgs in
    given_back (λ h. Swap a.cell a.new h) c.args.kind c.args.seat.now.me.0 c.swap-old.new.seat.me.0 c.settle.new.seat.me.0 c.swap-old.result
    (subst (λ (y : Kind). Gave (λ h. Swap a.cell a.new h) y c.args.seat.now.me.0 c.swap-old.result c.swap-old.new.seat.me.0) (sym c.requires.cell.1)
    c.swap-old.ensures.gave) c.settle.ensures.settled
