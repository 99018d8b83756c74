use Rattle.std.proofs.Common.{◌≡◌, ℕ, ◌+◌, length, get_or, Some, ap, ◌∙◌, arith}
use Rattle.step_table.proofs.Prelude.{GhostState, Read, spot, TableInvariant}
use Rattle.step_table.proofs.tables.Places.{inside, owner_busy, there}
use Rattle.step_table.proofs.tables.Reading.{field_read, kept_read}
use Rattle.step_table.proofs.tables.Standing.{found, kept_as, kept_now}
use Rattle.step_table.proofs.memory.table.Table.read.Goals as goal

pub block_word-requires-clause-block : goal.block_word-requires-clause-block
block_word-requires-clause-block c =
    let k : TableInvariant c.args.self.now = kept_now _ _ _ _ c.args.self.now c.self.invariant c.self.view_is in
    (there c.args.self.now c.args.block k (owner_busy c.args.self.now c.args.desk c.args.block _ k c.requires.held)).1.0

pub get-value-requires : goal.get-value-requires
get-value-requires c =
    let k : TableInvariant c.args.self.now = kept_now _ _ _ _ c.args.self.now c.self.invariant c.self.view_is in
    let i = inside c.args.self.now c.args.block (3 + c.from.result) k (there c.args.self.now c.args.block k
    (owner_busy c.args.self.now c.args.desk c.args.block _ k c.requires.held)).1 (let q = c.requires.field in let r = c.from.ensures in omega (arith, q, r)) in
    let w : c.self.inside.words ≡ c.args.self.now.words = ap (λ (s : GhostState). s.words) c.self.view_is in
    let b = c.block_word.ensures in
    omega (arith, i, b, ap (length {A = ℕ}) w)

pub invariant_of-self : goal.invariant_of-self
invariant_of-self c =
    let k : TableInvariant c.args.self.now = kept_now _ _ _ _ c.args.self.now c.self.invariant c.self.view_is in
    let w : c.self.inside.words ≡ c.args.self.now.words = ap (λ (s : GhostState). s.words) c.self.view_is in
    let f = found c.self.inside.words c.args.self.now.words c.block_word.result _ _ w c.block_word.ensures c.get-value.ensures in
    let n = f
    ∙ ap (λ (j : ℕ). get_or c.args.self.now.words (spot c.args.block.0 (3 + j)) 0) c.from.ensures
    ∙ field_read c.args.self.now c.args.block c.args.place.field k
    (owner_busy c.args.self.now c.args.desk c.args.block _ k c.requires.held) c.requires.field in
    kept_as c.args.self.now c.args.desk (Read c.args.block (Some c.args.place) c.get-value.result) _ _ _ _
    (kept_read c.args.self.now c.args.desk c.args.block c.args.place c.get-value.result k c.requires.seat c.requires.idle c.requires.held c.requires.inside n)
    (ap (λ (s : GhostState). s.extent) c.self.view_is) w c.then-self-inside.ensures

pub returns-clause-value : goal.returns-clause-value
returns-clause-value c =
    let k : TableInvariant c.args.self.now = kept_now _ _ _ _ c.args.self.now c.self.invariant c.self.view_is in
    let w : c.self.inside.words ≡ c.args.self.now.words = ap (λ (s : GhostState). s.words) c.self.view_is in
    let f = found c.self.inside.words c.args.self.now.words c.block_word.result _ _ w c.block_word.ensures c.get-value.ensures in
    f
    ∙ ap (λ (j : ℕ). get_or c.args.self.now.words (spot c.args.block.0 (3 + j)) 0) c.from.ensures
    ∙ field_read c.args.self.now c.args.block c.args.place.field k (owner_busy c.args.self.now c.args.desk c.args.block _ k c.requires.held) c.requires.field
