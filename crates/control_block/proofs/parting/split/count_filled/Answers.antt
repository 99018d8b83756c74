use Rattle.std.proofs.Common.{take, sym, ◌∙◌, arith, length-take}
use Rattle.control_block.proofs.SlotLists.{filled_few, next_filled, next_vacant}
use Rattle.control_block.proofs.parting.split.count_filled.Goals as goal
use Rattle.control_block.proofs.parting.split.count_filled.Goals.{then-is_some, else-is_some}

pub overflow_add-count : goal.overflow_add-count
overflow_add-count c =
    let i = c.loop-slot.slot-index in let few = filled_few (take i c.args.slots.now) in let size = length-take i c.args.slots.now in
    omega (arith, c.loop-slot.invariant, c.loop-slot-test.true)

pub loop-slot-preserved : goal.loop-slot-preserved
loop-slot-preserved c =
    let i = c.loop-slot.slot-index in let l = c.args.slots.now in let x = c.slot-item.result in
    elim c.if-is_some.branch [
      | then-is_some w ↦ w.count-is ∙ (let a = next_filled l i x c.loop-slot-test.true c.slot-item.is (sym c.is_some.ensures ∙ w.if-is_some.true) in
          let b = c.loop-slot.invariant in omega arith)
      | else-is_some w ↦ w.count-is ∙ (let a = next_vacant l i x c.loop-slot-test.true c.slot-item.is (sym c.is_some.ensures ∙ w.if-is_some.false) in
          let b = c.loop-slot.invariant in omega arith)
    ]
