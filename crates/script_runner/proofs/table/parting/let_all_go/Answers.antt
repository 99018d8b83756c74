use Rattle.std.proofs.Common.{arith}
use Rattle.script_runner.proofs.TablePrelude.{nil_from_length}
use Rattle.script_runner.proofs.Letting.{all_gone, begins, goes, held_last, passes}
use Rattle.script_runner.proofs.table.parting.let_all_go.Goals as goal

pub loop-slot-init : goal.loop-slot-init
loop-slot-init g c = begins c.args.domain.now c.args.desk.now c.args.pile.now c.args.slots.items c.requires.bears c.requires.fits

pub loop-slot-preserved-in-None : goal.loop-slot-preserved-in-None
loop-slot-preserved-in-None g c = passes _ _ _ _ _ _ _ _ _ c.loop-slot.invariant c.in-Some.ensures.items c.in-None.is

pub let_go-requires-clause-held : goal.let_go-requires-clause-held
let_go-requires-clause-held g c =
    held_last _ _ _ _ _ _ _ _ _ c.in-Some-slot.handle c.loop-slot.invariant c.in-Some.ensures.items
    c.in-Some-slot.is

pub loop-slot-preserved : goal.loop-slot-preserved
loop-slot-preserved g c =
    let e = c.let_go.ensures in
    goes _ _ _ _ _ _ _ _ _ _ _ c.in-Some-slot.handle c.let_go.result c.loop-slot.invariant c.in-Some.ensures.items
    c.in-Some-slot.is e.bears e.left e.bag e.held e.allowance

pub returns-clause-left : goal.returns-clause-left
returns-clause-left g c =
    all_gone c.args.domain.now c.args.desk.now c.loop-slot.desk c.args.pile.now c.loop-slot.pile c.args.slots.items
    c.loop-slot.slots.items c.loop-slot.invariant
    (nil_from_length c.loop-slot.slots.items (let n = c.loop-slot.slots.ok.0 in let m = c.in_default.ensures.cases.0 in omega arith))
