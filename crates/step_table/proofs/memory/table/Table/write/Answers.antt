use Rattle.std.proofs.Common.{◌≡◌, ℕ, ◌+◌, length, ap, ◌∙◌, arith}
use Rattle.step_table.proofs.Prelude.{GhostState, spot, TableInvariant, Write}
use Rattle.step_table.proofs.tables.Making.{kept_write}
use Rattle.step_table.proofs.tables.Places.{inside, making_place}
use Rattle.step_table.proofs.tables.Standing.{kept_as, kept_now}
use Rattle.step_table.proofs.memory.table.Table.write.Goals as goal

pub block_word-requires-clause-block : goal.block_word-requires-clause-block
block_word-requires-clause-block c =
    let k : TableInvariant c.args.self.now = kept_now _ _ _ _ c.args.self.now c.self.invariant c.self.view_is in
    (making_place c.args.self.now c.args.desk c.args.block _ k c.requires.seat c.requires.making.making).0

pub set-requires : goal.set-requires
set-requires c =
    let k : TableInvariant c.args.self.now = kept_now _ _ _ _ c.args.self.now c.self.invariant c.self.view_is in
    let i = inside c.args.self.now c.args.block (2 + c.args.index) k
    (making_place c.args.self.now c.args.desk c.args.block _ k c.requires.seat c.requires.making.making) (let q = c.requires in omega arith) in
    let w : c.self.inside.words ≡ c.args.self.now.words = ap (λ (s : GhostState). s.words) c.self.view_is in
    let b = (c.block_word.ensures ∙ ap (λ (m : ℕ). spot c.args.block.0 (2 + m)) c.from-word.ensures) in
    omega (arith, i, b, ap (length {A = ℕ}) w)

pub invariant_of-self : goal.invariant_of-self
invariant_of-self c =
    let k : TableInvariant c.args.self.now = kept_now _ _ _ _ c.args.self.now c.self.invariant c.self.view_is in
    let w : c.self.inside.words ≡ c.args.self.now.words = ap (λ (s : GhostState). s.words) c.self.view_is in
    let e = (c.block_word.ensures ∙ ap (λ (m : ℕ). spot c.args.block.0 (2 + m)) c.from-word.ensures) in
    kept_as c.args.self.now c.args.desk (Write c.args.block c.args.index c.args.value) _ _ _ _
    (kept_write c.args.self.now c.args.desk c.args.block c.args.index c.args.value k c.requires.seat c.requires.making c.requires.inside)
    (ap (λ (s : GhostState). s.extent) c.self.view_is)
    (let s = c.set.ensures in cc)
    c.then-ghost_history.ensures
