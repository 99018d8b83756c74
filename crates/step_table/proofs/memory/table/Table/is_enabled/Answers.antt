use Rattle.std.proofs.Common.{◌∙◌}
use Rattle.step_table.proofs.Prelude.{model_state, object_of_block}
use Rattle.step_table.proofs.tables.Places.{handle_busy, there}
use Rattle.step_table.proofs.tables.Reading.{flags_read}
use Rattle.step_table.proofs.memory.table.Table.is_enabled.Goals as goal

pub word-requires-clause-some : goal.word-requires-clause-some
word-requires-clause-some c =
    let v = c.args.self.now in
    let k = c.assert_invariant.ensures in
    (there v c.args.pointer.block k (handle_busy v c.args.desk c.args.pointer.kind c.args.pointer.block c.args.pointer.place k c.requires)).1.0

pub word-requires-clause-block : goal.word-requires-clause-block
word-requires-clause-block c =
    let v = c.args.self.now in
    let k = c.assert_invariant.ensures in
    (there v c.args.pointer.block k (handle_busy v c.args.desk c.args.pointer.kind c.args.pointer.block c.args.pointer.place k c.requires)).1.1

pub returns : goal.returns
returns c =
    let v = c.args.self.now in
    let b = c.args.pointer.block in
    let k = c.assert_invariant.ensures in
    let x = (model_state v).object (object_of_block v b) in
    c.is_enabled.ensures x.enabled x.null
    (c.word.ensures ∙ flags_read v b k (handle_busy v c.args.desk c.args.pointer.kind b c.args.pointer.place k c.requires))
