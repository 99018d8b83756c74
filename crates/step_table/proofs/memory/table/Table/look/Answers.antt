use Rattle.std.proofs.Common.{◌≡◌, ℕ, ◌+◌, length, ap, ◌∙◌, arith}
use Rattle.step_table.proofs.Prelude.{GhostState, spot, TableInvariant}
use Rattle.step_table.proofs.tables.Making.{known_word}
use Rattle.step_table.proofs.tables.Places.{inside, making_place}
use Rattle.step_table.proofs.tables.Standing.{found, kept_now}
use Rattle.step_table.proofs.memory.table.Table.look.Goals as goal

pub block_word-requires-clause-block : goal.block_word-requires-clause-block
block_word-requires-clause-block c =
    let k : TableInvariant c.args.self.now = kept_now _ _ _ _ c.args.self.now c.self.invariant c.self.view_is in
    (making_place c.args.self.now c.args.desk c.args.block _ k c.requires.seat c.requires.making.making).0

pub get-requires : goal.get-requires
get-requires c =
    let k : TableInvariant c.args.self.now = kept_now _ _ _ _ c.args.self.now c.self.invariant c.self.view_is in
    let i = inside c.args.self.now c.args.block (2 + c.args.index) k
    (making_place c.args.self.now c.args.desk c.args.block _ k c.requires.seat c.requires.making.making) (let q = c.requires in omega arith) in
    let w : c.self.inside.words ≡ c.args.self.now.words = ap (λ (s : GhostState). s.words) c.self.view_is in
    let b = (c.block_word.ensures ∙ ap (λ (m : ℕ). spot c.args.block.0 (2 + m)) c.from.ensures) in
    omega (arith, i, b, ap (length {A = ℕ}) w)

pub returns : goal.returns
returns c =
    let k : TableInvariant c.args.self.now = kept_now _ _ _ _ c.args.self.now c.self.invariant c.self.view_is in
    let w : c.self.inside.words ≡ c.args.self.now.words = ap (λ (s : GhostState). s.words) c.self.view_is in
    let i = inside c.args.self.now c.args.block (2 + c.args.index) k
    (making_place c.args.self.now c.args.desk c.args.block _ k c.requires.seat c.requires.making.making) (let q = c.requires in omega arith) in
    let f = found c.self.inside.words c.args.self.now.words c.block_word.result _ _ w (c.block_word.ensures
    ∙ ap (λ (m : ℕ). spot c.args.block.0 (2 + m)) c.from.ensures) c.get.ensures in
    f ∙ known_word c.args.self.now c.args.desk c.args.block c.args.index k c.requires.seat c.requires.making c.requires.inside
