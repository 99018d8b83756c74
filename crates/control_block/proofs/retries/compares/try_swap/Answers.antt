use Rattle.std.proofs.Common.{◌-◌, true, sym, refl, ap, ◌∙◌, subst}
use Rattle.control_block.proofs.Prelude.{Compare, Gave, InHand, Kind, known}
use Rattle.control_block.proofs.cells.CellRetries.{added_owes, gave_counted}
use Rattle.control_block.proofs.cells.CellTrades.{compare_trades}
use Rattle.control_block.proofs.cells.CellTries.{swapped_at}
use Rattle.control_block.proofs.retries.compares.try_swap.Goals as goal

pub compare_and_swap-requires-clause-table : goal.compare_and_swap-requires-clause-table
compare_and_swap-requires-clause-table g c = c.requires.aim.table

pub compare_and_swap-requires-clause-rests : goal.compare_and_swap-requires-clause-rests
compare_and_swap-requires-clause-rests g c = c.requires.aim.rests

pub compare_and_swap-requires-clause-word : goal.compare_and_swap-requires-clause-word
compare_and_swap-requires-clause-word g c = c.requires.aim.word

pub compare_and_swap-requires-clause-cell : goal.compare_and_swap-requires-clause-cell
compare_and_swap-requires-clause-cell g c = c.requires.aim.cell

pub compare_and_swap-requires-clause-seen : goal.compare_and_swap-requires-clause-seen
compare_and_swap-requires-clause-seen g c = c.requires.seen

pub compare_and_swap-requires-clause-expected : goal.compare_and_swap-requires-clause-expected
compare_and_swap-requires-clause-expected g c =
    let v = c.args.seat.now.me.0 in
    subst (λ (y : Kind). InHand (known v) v.view.name y g.A.CellArgs.expected) c.requires.aim.kind c.requires.offer.expected_hand

pub compare_and_swap-requires-clause-new : goal.compare_and_swap-requires-clause-new
compare_and_swap-requires-clause-new g c = let o = c.requires.offer in (o.valid, o.shows)

pub compare_and_swap-requires-clause-hand : goal.compare_and_swap-requires-clause-hand
compare_and_swap-requires-clause-hand g c =
    let v = c.args.seat.now.me.0 in
    subst (λ (y : Kind). InHand (known v) v.view.name y g.A.CellArgs.new) c.requires.aim.kind c.requires.offer.new_hand

pub compare_and_swap-requires-clause-room : goal.compare_and_swap-requires-clause-room
compare_and_swap-requires-clause-room g c = λ _. c.requires.offer.room

pub settle-requires-clause-table : goal.settle-requires-clause-table
settle-requires-clause-table g c = c.compare_and_swap.ensures.seat.0 ∙ c.requires.aim.table

pub settle-requires-clause-count : goal.settle-requires-clause-count
settle-requires-clause-count g c =
    let a = g.A.CellArgs in let r = c.requires in let v = c.args.seat.now.me.0 in let w = c.compare_and_swap.new.seat.me.0 in let x = c.args.seen in
    let t = subst (λ (y : Kind). Gave (λ h. Compare a.cell a.expected a.new h true a.weak) y v x w) (sym r.aim.kind) (c.if-compare_and_swap.ensures.gave
    refl) in
    gave_counted (λ h. Compare a.cell a.expected a.new h true a.weak) c.args.kind v w x a.new c.args.table.now.table_id
    (compare_trades g.row.V.Denot a.cell a.expected a.new a.weak) t r.aim.sized

pub settle-requires-clause-owes : goal.settle-requires-clause-owes
settle-requires-clause-owes g c =
    let a = g.A.CellArgs in let r = c.requires in let v = c.args.seat.now.me.0 in let w = c.compare_and_swap.new.seat.me.0 in let x = c.args.seen in
    let t = subst (λ (y : Kind). Gave (λ h. Compare a.cell a.expected a.new h true a.weak) y v x w) (sym r.aim.kind) (c.if-compare_and_swap.ensures.gave
    refl) in
    (t.old, t.kind, added_owes v c.compare_and_swap.new.seat.me _ _ t.event r.aim.rests.awake c.compare_and_swap.ensures.seat.2)

pub returns-then-compare_and_swap-clause-table : goal.returns-then-compare_and_swap-clause-table
returns-then-compare_and_swap-clause-table g c = c.settle.ensures.seat.0 ∙ c.compare_and_swap.ensures.seat.0

pub returns-then-compare_and_swap-clause-swapped : goal.returns-then-compare_and_swap-clause-swapped
returns-then-compare_and_swap-clause-swapped g c =
    λ _. let a = g.A.CellArgs in let r = c.requires in let v = c.args.seat.now.me.0 in let w = c.compare_and_swap.new.seat.me.0 in let x = c.args.seen in
    let t = subst (λ (y : Kind). Gave (λ h. Compare a.cell a.expected a.new h true a.weak) y v x w) (sym r.aim.kind) (c.if-compare_and_swap.ensures.gave
    refl) in
    swapped_at (λ h. Compare a.cell a.expected a.new h true a.weak) c.args.kind v w c.settle.new.seat.me x r.seen.0 t c.settle.ensures.settled
    c.settle.ensures.seat.2
