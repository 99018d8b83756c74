use Rattle.std.proofs.Common.{arith}
use Rattle.step_core.proofs.StartStores.{IsShare, stocks_if}
use Rattle.step_core.proofs.start.stock_of.Goals as goal
use Rattle.step_core.proofs.start.stock_of.Goals.{then-desk-extent, else-desk-extent}

pub returns : goal.returns
returns c =
    let share : IsShare c.args.extent.now.shape.blocks c.args.extent.now.actors c.args.desk c.if-desk-extent.count =
    elim c.if-desk-extent.branch [
      | then-desk-extent w ↦ record { last = λ e. w.count-is; other = λ l. absurd (let t = w.if-desk-extent.true in omega arith) }
      | else-desk-extent w ↦ record { last = λ e. absurd (let t = w.if-desk-extent.false in omega arith); other = λ l. w.count-is }
    ] in
    stocks_if c.args.extent.now c.args.desk c.if-desk-extent.count c.new.result c.requires.desk share c.new.ensures.blocks c.new.ensures.room
