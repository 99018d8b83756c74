use Rattle.std.proofs.Common.{◌≡◌, ℕ, length, ap, arith}
use Rattle.step_table.proofs.Prelude.{GhostState, TableInvariant}
use Rattle.step_table.proofs.tables.Places.{inside, ending_busy, there}
use Rattle.step_table.proofs.tables.Standing.{found, kept_now}
use Rattle.step_table.proofs.memory.table.Table.body_word.Goals as goal

pub block_word-requires-clause-block : goal.block_word-requires-clause-block
block_word-requires-clause-block c =
    let k : TableInvariant c.args.self.now = kept_now _ _ _ _ c.args.self.now c.self.invariant c.self.view_is in
    (there c.args.self.now c.args.block k (ending_busy c.args.self.now c.args.desk c.args.block c.requires.ending)).1.0

pub get-requires : goal.get-requires
get-requires c =
    let k : TableInvariant c.args.self.now = kept_now _ _ _ _ c.args.self.now c.self.invariant c.self.view_is in
    let i = inside c.args.self.now c.args.block c.args.word k (there c.args.self.now c.args.block k
    (ending_busy c.args.self.now c.args.desk c.args.block c.requires.ending)).1 (let q = c.requires in omega arith) in
    let w : c.self.inside.words ≡ c.args.self.now.words = ap (λ (s : GhostState). s.words) c.self.view_is in
    let b = c.block_word.ensures in
    omega (arith, i, b, ap (length {A = ℕ}) w)

pub returns : goal.returns
returns c =
    let k : TableInvariant c.args.self.now = kept_now _ _ _ _ c.args.self.now c.self.invariant c.self.view_is in
    let w : c.self.inside.words ≡ c.args.self.now.words = ap (λ (s : GhostState). s.words) c.self.view_is in
    found c.self.inside.words c.args.self.now.words c.block_word.result _ _ w c.block_word.ensures c.get.ensures
