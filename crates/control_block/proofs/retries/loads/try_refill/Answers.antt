use Rattle.std.proofs.Common.{◌≡◌, ℕ, ◌≤◌, ◌-◌, Some, None, Option, sym, refl, ap, ◌∙◌, subst}
use Rattle.control_block.proofs.Prelude.{At, Block, block_out, CellWord, HoldingInBlock, IsCellAt, Kind, Owes, owing, Rests}
use Rattle.control_block.proofs.cells.CellRetries.{back_again, brought_owes}
use Rattle.control_block.proofs.cells.CellTries.{aim_at, holding_at}
use Rattle.control_block.proofs.retries.loads.try_refill.Goals as goal
use Rattle.control_word.specs.Limits.{cell_funds}

-- the block that a cell's word shows
shows : (x : CellWord) (b : Block) → x.owned ≡ Some b → b ≡ block_out x
shows x b e = ap (λ (q : Option Block). elim q as (λ _. Block) [ None ↦ record { 0 = 0 } | Some c ↦ c ]) (sym e)

pub peek-seen-requires-clause-table : goal.peek-seen-requires-clause-table
peek-seen-requires-clause-table g c = c.requires.aim.table

pub peek-seen-requires-clause-awake : goal.peek-seen-requires-clause-awake
peek-seen-requires-clause-awake g c = c.requires.aim.rests.awake

pub peek-seen-requires-clause-word : goal.peek-seen-requires-clause-word
peek-seen-requires-clause-word g c = c.requires.aim.word

pub peek-seen-requires-clause-cell : goal.peek-seen-requires-clause-cell
peek-seen-requires-clause-cell g c = c.requires.aim.cell

pub refill-requires-clause-table : goal.refill-requires-clause-table
refill-requires-clause-table g c = c.peek-seen.ensures.seat.0 ∙ c.requires.aim.table

pub refill-requires-clause-rests : goal.refill-requires-clause-rests
refill-requires-clause-rests g c =
    subst (λ (y : At g.row.V.Denot). Rests y) (sym c.peek-seen.ensures.seat.2) c.requires.aim.rests

pub refill-requires-clause-word : goal.refill-requires-clause-word
refill-requires-clause-word g c = c.requires.aim.word

pub refill-requires-clause-cell : goal.refill-requires-clause-cell
refill-requires-clause-cell g c =
    subst (λ (y : At g.row.V.Denot). IsCellAt y.0 g.A.CellArgs.cell c.args.word) (sym c.peek-seen.ensures.seat.2) c.requires.aim.cell

pub refill-requires-clause-seen : goal.refill-requires-clause-seen
refill-requires-clause-seen g c =
    let d = c.is_drained.ensures c.if-not-is_drained.false in
    (c.peek-seen.ensures.cell, d.0 ∙ ap Some (shows c.peek-seen.result c.args.block d.0), refl, d.1)

pub refill-requires-clause-holds : goal.refill-requires-clause-holds
refill-requires-clause-holds g c =
    let r = c.requires in let same = c.peek-seen.ensures.seat.2 in let aim = aim_at r.aim c.peek-seen.ensures.seat.0 same in
    let m = g.M.StepArgs in let d = c.is_drained.ensures c.if-not-is_drained.false in (
      r.holds.0 ∙ aim.kind,
      subst (λ (y : Block). HoldingInBlock c.peek-seen.new.seat.me.0 m.kind m.object m.place y.0) (shows c.peek-seen.result c.args.block d.0)
          (holding_at r.holds.1 same),
    )

pub top_up-requires-clause-owes : goal.top_up-requires-clause-owes
top_up-requires-clause-owes g c =
    let r = c.requires in let m = g.M.StepArgs in let aim = aim_at r.aim c.peek-seen.ensures.seat.0 c.peek-seen.ensures.seat.2 in
    let d = c.is_drained.ensures c.if-not-is_drained.false in (
      m.object,
      m.place,
      subst (λ (y : Kind × ℕ × Block). Owes (owing y.0 m.object m.place y.2.0 (cell_funds - y.1) 0) c.refill.new.seat.me)
          (λ i. (r.holds.0 i, sym c.taken.ensures i, sym (shows c.peek-seen.result c.args.block d.0) i))
          (brought_owes c.peek-seen.new.seat.me c.refill.new.seat.me _ aim.rests (c.refill.ensures.refilled c.if-refill.true) c.refill.ensures.seat.2),
    )
