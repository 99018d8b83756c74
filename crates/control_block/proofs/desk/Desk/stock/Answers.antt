use Rattle.std.proofs.Common.{arith}
use Rattle.control_block.proofs.Prelude.{known, opening_of, sound}
use Rattle.control_block.proofs.words.Stores.{stock_few}
use Rattle.control_block.proofs.desk.Desk.stock.Goals as goal

pub overflow_cast-result : goal.overflow_cast-result
overflow_cast-result g c =
    let d = c.self.inside in let h = c.self.invariant in let v = d.seat.me.0 in let z = opening_of v.shape in
    let few = stock_few z (known v) v.view.name (sound z v.view.seen h.legal) in
    omega (arith, h.many, few, h.limits.blocks, c.len.ensures, d.store.ok)
