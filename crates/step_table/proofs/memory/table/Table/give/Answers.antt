use Rattle.std.proofs.Common.{sym, subst, arith}
use Rattle.step_table.proofs.Prelude.{IsPointer}
use Rattle.step_table.proofs.tables.Places.{handle_busy, there}
use Rattle.step_table.proofs.memory.table.Table.give.Goals as goal

pub share-requires-clause-place : goal.share-requires-clause-place
share-requires-clause-place c =
    let v = c.args.self.now in
    let x = c.args.pointer in
    let k = c.assert_invariant.ensures in
    let t = (there v x.block k (handle_busy v c.args.desk x.kind x.block x.place k c.requires.held)).1 in
    let few = k.proper.blocks in
    let low = t.0 in
    let high = t.1 in
    subst IsPointer (sym c.itself-place.ensures) (low, omega (arith, high, few), omega arith)
