use Rattle.std.proofs.Common.{◌≡◌, ℕ, length, ap, arith}
use Rattle.step_table.proofs.Prelude.{GhostState, Prepare}
use Rattle.step_table.proofs.tables.Making.{kept_prepare}
use Rattle.step_table.proofs.tables.Places.{inside, vacant_place}
use Rattle.step_table.proofs.tables.Standing.{kept_as, kept_now}
use Rattle.step_table.proofs.memory.table.Table.prepare.Goals as goal

pub block_word-requires-clause-block : goal.block_word-requires-clause-block
block_word-requires-clause-block c =
    (vacant_place _ c.args.desk c.args.block (kept_now _ _ _ _ c.args.self.now c.self.invariant c.self.view_is) c.requires.stored).0

pub set-requires : goal.set-requires
set-requires c =
    let k = kept_now _ _ _ _ c.args.self.now c.self.invariant c.self.view_is in
    let i = inside c.args.self.now c.args.block 1 k (vacant_place _ c.args.desk c.args.block k c.requires.stored) (omega arith) in
    let w : c.self.inside.words ≡ c.args.self.now.words = ap (λ (s : GhostState). s.words) c.self.view_is in
    omega (arith, i, ap (length {A = ℕ}) w, c.block_word.ensures)

pub invariant_of-self : goal.invariant_of-self
invariant_of-self c =
    let k = kept_now _ _ _ _ c.args.self.now c.self.invariant c.self.view_is in
    let w : c.self.inside.words ≡ c.args.self.now.words = ap (λ (s : GhostState). s.words) c.self.view_is in
    kept_as c.args.self.now c.args.desk (Prepare c.args.block) _ _ _ _ (kept_prepare _ _ _ k c.requires.seat c.requires.idle c.requires.stored)
    (ap (λ (s : GhostState). s.extent) c.self.view_is)
    (let e = c.block_word.ensures in let s = c.set.ensures in cc)
    c.then-ghost_history.ensures
