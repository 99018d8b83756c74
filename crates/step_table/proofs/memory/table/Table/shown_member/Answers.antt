use Rattle.std.proofs.Common.{◌≡◌, ℕ, ◌+◌, length, sym, ap, ◌∙◌, arith}
use Rattle.step_table.proofs.Prelude.{GhostState, Member, spot, TableInvariant}
use Rattle.step_table.proofs.tables.Standing.{found, kept_now}
use Rattle.step_table.proofs.tables.Shown.{cell_packed, found_in, somewhere, word_inside}
use Rattle.step_table.proofs.tables.Swaps.{ending_cell}
use Rattle.step_table.proofs.memory.table.Table.shown_member.Goals as goal

pub block_word-requires-clause-block : goal.block_word-requires-clause-block
block_word-requires-clause-block c =
    let k : TableInvariant c.args.self.now = kept_now _ _ _ _ c.args.self.now c.self.invariant c.self.view_is in
    let is = ending_cell c.args.self.now c.args.desk c.args.block c.args.member c.requires.ending c.requires.inside in
    (somewhere c.args.self.now (Member c.args.block c.args.member) k is).0

pub get-requires : goal.get-requires
get-requires c =
    let k : TableInvariant c.args.self.now = kept_now _ _ _ _ c.args.self.now c.self.invariant c.self.view_is in
    let w : c.self.inside.words ≡ c.args.self.now.words = ap (λ (s : GhostState). s.words) c.self.view_is in
    let is = ending_cell c.args.self.now c.args.desk c.args.block c.args.member c.requires.ending c.requires.inside in
    let i = word_inside c.args.self.now c.args.desk (Member c.args.block c.args.member) k c.requires.seat is in
    let at : c.block_word.result ≡ spot c.args.block.0 (7 + c.args.member) =
    c.block_word.ensures ∙ ap (λ (m : ℕ). spot c.args.block.0 (7 + m)) c.from.ensures in
    omega (arith, i, at, ap (length {A = ℕ}) w)

pub unpack-requires : goal.unpack-requires
unpack-requires c =
    let k : TableInvariant c.args.self.now = kept_now _ _ _ _ c.args.self.now c.self.invariant c.self.view_is in
    let w : c.self.inside.words ≡ c.args.self.now.words = ap (λ (s : GhostState). s.words) c.self.view_is in
    let is = ending_cell c.args.self.now c.args.desk c.args.block c.args.member c.requires.ending c.requires.inside in
    let at : c.block_word.result ≡ spot c.args.block.0 (7 + c.args.member) =
    c.block_word.ensures ∙ ap (λ (m : ℕ). spot c.args.block.0 (7 + m)) c.from.ensures in
    let f = found c.self.inside.words c.args.self.now.words c.block_word.result _ _ w at c.get.ensures in
    cell_packed c.args.self.now c.args.desk (Member c.args.block c.args.member) c.get.result k c.requires.seat is f

pub returns : goal.returns
returns c =
    let k : TableInvariant c.args.self.now = kept_now _ _ _ _ c.args.self.now c.self.invariant c.self.view_is in
    let w : c.self.inside.words ≡ c.args.self.now.words = ap (λ (s : GhostState). s.words) c.self.view_is in
    let is = ending_cell c.args.self.now c.args.desk c.args.block c.args.member c.requires.ending c.requires.inside in
    let at : c.block_word.result ≡ spot c.args.block.0 (7 + c.args.member) =
    c.block_word.ensures ∙ ap (λ (m : ℕ). spot c.args.block.0 (7 + m)) c.from.ensures in
    let f = found c.self.inside.words c.args.self.now.words c.block_word.result _ _ w at c.get.ensures in
    (found_in c.args.self.now c.args.desk (Member c.args.block c.args.member) c.unpack.result k c.requires.seat is c.unpack.ensures.valid
    (sym f ∙ sym c.unpack.ensures.bits)).shows
