use Rattle.std.proofs.Common.{[], ◌∷◌, sym, refl, ◌∙◌}
use Rattle.step_table.proofs.Prelude.{model_state, object_of_block}
use Rattle.step_table.proofs.tables.Places.{ending_busy}
use Rattle.step_table.proofs.tables.Reading.{flags_read, four_of, remains_fields, remains_null}
use Rattle.step_table.proofs.memory.table.Table.remains.Goals as goal

pub returns-then-is_null : goal.returns-then-is_null
returns-then-is_null c =
    let x = (model_state c.args.self.now).object (object_of_block c.args.self.now c.args.block) in
    let busy = ending_busy c.args.self.now c.args.desk c.args.block c.requires.ending in
    let f = c.body_word.ensures ∙ flags_read c.args.self.now c.args.block c.assert_invariant.ensures busy in
    sym (remains_null x (sym (c.is_null.ensures x.enabled x.null f) ∙ c.if-is_null.true))

pub returns : goal.returns
returns c =
    let x = (model_state c.args.self.now).object (object_of_block c.args.self.now c.args.block) in
    let busy = ending_busy c.args.self.now c.args.desk c.args.block c.requires.ending in
    let f = c.body_word.ensures ∙ flags_read c.args.self.now c.args.block c.assert_invariant.ensures busy in
    sym (remains_fields c.args.self.now c.args.block
    (c.body_word-2.result ∷ c.body_word-3.result ∷ c.body_word-4.result ∷ c.body_word-5.result ∷ []) c.assert_invariant.ensures busy
    (sym (c.is_null.ensures x.enabled x.null f) ∙ c.if-is_null.false) refl
    (four_of c.args.self.now.words c.args.block.0 _ _ _ _ c.body_word-2.ensures c.body_word-3.ensures c.body_word-4.ensures c.body_word-5.ensures))
