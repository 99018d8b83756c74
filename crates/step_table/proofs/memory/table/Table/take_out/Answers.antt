use Rattle.std.proofs.Common.{◌≡◌, ℕ, ◌+◌, length, ap, ◌∙◌, arith}
use Rattle.step_table.proofs.Prelude.{GhostState, Member, OnCell, spot, TableInvariant, TakeOut}
use Rattle.step_table.proofs.tables.Standing.{kept_as, kept_now}
use Rattle.step_table.proofs.tables.Shown.{somewhere, word_inside}
use Rattle.step_table.proofs.tables.Swaps.{ending_cell, kept_take_out}
use Rattle.step_table.proofs.memory.table.Table.take_out.Goals as goal

pub block_word-requires-clause-block : goal.block_word-requires-clause-block
block_word-requires-clause-block c =
    let k : TableInvariant c.args.self.now = kept_now _ _ _ _ c.args.self.now c.self.invariant c.self.view_is in
    let is = ending_cell c.args.self.now c.args.desk c.args.block c.args.member c.requires.ending c.requires.inside in
    (somewhere c.args.self.now (Member c.args.block c.args.member) k is).0

pub set-requires : goal.set-requires
set-requires c =
    let k : TableInvariant c.args.self.now = kept_now _ _ _ _ c.args.self.now c.self.invariant c.self.view_is in
    let w : c.self.inside.words ≡ c.args.self.now.words = ap (λ (s : GhostState). s.words) c.self.view_is in
    let is = ending_cell c.args.self.now c.args.desk c.args.block c.args.member c.requires.ending c.requires.inside in
    let i = word_inside c.args.self.now c.args.desk (Member c.args.block c.args.member) k c.requires.seat is in
    let at : c.block_word.result ≡ spot c.args.block.0 (7 + c.args.member) =
    c.block_word.ensures ∙ ap (λ (m : ℕ). spot c.args.block.0 (7 + m)) c.from.ensures in
    omega (arith, i, at, ap (length {A = ℕ}) w)

pub invariant_of-self : goal.invariant_of-self
invariant_of-self c =
    let k : TableInvariant c.args.self.now = kept_now _ _ _ _ c.args.self.now c.self.invariant c.self.view_is in
    let w : c.self.inside.words ≡ c.args.self.now.words = ap (λ (s : GhostState). s.words) c.self.view_is in
    let x : c.self.inside.extent ≡ c.args.self.now.extent = ap (λ (s : GhostState). s.extent) c.self.view_is in
    let is = ending_cell c.args.self.now c.args.desk c.args.block c.args.member c.requires.ending c.requires.inside in
    let at : c.block_word.result ≡ spot c.args.block.0 (7 + c.args.member) =
    c.block_word.ensures ∙ ap (λ (m : ℕ). spot c.args.block.0 (7 + m)) c.from.ensures in
    kept_as c.args.self.now c.args.desk (OnCell (TakeOut c.args.block c.args.member c.shown_member-found.result)) _ _ _ _
    (kept_take_out c.args.self.now c.args.desk c.args.block c.args.member c.shown_member-found.result k c.requires.seat c.requires.idle
    c.requires.ending c.requires.inside
    c.requires.room c.shown_member-found.ensures)
    x (let e = at in let s = c.set.ensures in cc) c.then-ghost_history.ensures
