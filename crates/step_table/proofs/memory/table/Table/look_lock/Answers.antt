use Rattle.std.proofs.Common.{◌≡◌, ℕ, false, length, ◌==◌, ap, ◌∙◌, arith}
use Rattle.step_table.proofs.Prelude.{GhostState, Lock, TableInvariant, Weak}
use Rattle.step_table.proofs.tables.Locks.{kept_lock_empty}
use Rattle.step_table.proofs.tables.Weaks.{none_left}
use Rattle.step_table.proofs.tables.Places.{handle_busy, inside, there}
use Rattle.step_table.proofs.tables.Standing.{found, kept_as, kept_now}
use Rattle.step_table.proofs.memory.table.Table.look_lock.Goals as goal

pub block_word-requires-clause-block : goal.block_word-requires-clause-block
block_word-requires-clause-block c =
    let k : TableInvariant c.args.self.now = kept_now _ _ _ _ c.args.self.now c.self.invariant c.self.view_is in
    (there c.args.self.now c.args.block k
    (handle_busy c.args.self.now c.args.desk Weak c.args.block c.args.place k c.requires.held)).1.0

pub get-found-requires : goal.get-found-requires
get-found-requires c =
    let k : TableInvariant c.args.self.now = kept_now _ _ _ _ c.args.self.now c.self.invariant c.self.view_is in
    let i = inside c.args.self.now c.args.block 0 k (there c.args.self.now c.args.block k
    (handle_busy c.args.self.now c.args.desk Weak c.args.block c.args.place k c.requires.held)).1 (let q = c.requires in omega arith) in
    let w : c.self.inside.words ≡ c.args.self.now.words = ap (λ (s : GhostState). s.words) c.self.view_is in
    let b = c.block_word.ensures in
    omega (arith, i, b, ap (length {A = ℕ}) w)

pub returns-then-found-gt0-clause-found : goal.returns-then-found-gt0-clause-found
returns-then-found-gt0-clause-found c =
    let k : TableInvariant c.args.self.now = kept_now _ _ _ _ c.args.self.now c.self.invariant c.self.view_is in
    let w : c.self.inside.words ≡ c.args.self.now.words = ap (λ (s : GhostState). s.words) c.self.view_is in
    let f = found c.self.inside.words c.args.self.now.words c.block_word.result _ _ w c.block_word.ensures c.get-found.ensures in
    f

pub returns-then-found-gt0-clause-left : goal.returns-then-found-gt0-clause-left
returns-then-found-gt0-clause-left c =
    let k : TableInvariant c.args.self.now = kept_now _ _ _ _ c.args.self.now c.self.invariant c.self.view_is in
    let w : c.self.inside.words ≡ c.args.self.now.words = ap (λ (s : GhostState). s.words) c.self.view_is in
    let f = found c.self.inside.words c.args.self.now.words c.block_word.result _ _ w c.block_word.ensures c.get-found.ensures in
    ap (λ (n : ℕ). n == 0) f ∙ none_left c.args.self.now c.args.desk Weak c.args.block c.args.place k c.requires.seat c.requires.idle c.requires.held

pub returns-clause-left : goal.returns-clause-left
returns-clause-left c =
    let k : TableInvariant c.args.self.now = kept_now _ _ _ _ c.args.self.now c.self.invariant c.self.view_is in
    let w : c.self.inside.words ≡ c.args.self.now.words = ap (λ (s : GhostState). s.words) c.self.view_is in
    let f = found c.self.inside.words c.args.self.now.words c.block_word.result _ _ w c.block_word.ensures c.get-found.ensures in
    ap (λ (n : ℕ). n == 0) f ∙ none_left c.args.self.now c.args.desk Weak c.args.block c.args.place k c.requires.seat c.requires.idle c.requires.held

pub invariant_of-self : goal.invariant_of-self
invariant_of-self c =
    let k : TableInvariant c.args.self.now = kept_now _ _ _ _ c.args.self.now c.self.invariant c.self.view_is in
    let w : c.self.inside.words ≡ c.args.self.now.words = ap (λ (s : GhostState). s.words) c.self.view_is in
    let f = found c.self.inside.words c.args.self.now.words c.block_word.result _ _ w c.block_word.ensures c.get-found.ensures in
    let z = c.if-found-gt0.false in
    kept_as c.args.self.now c.args.desk (Lock c.args.block c.args.place false) _ _ _ _
    (kept_lock_empty c.args.self.now c.args.desk c.args.block c.args.place k c.requires.seat c.requires.idle c.requires.held (omega (arith, f, z)))
    (ap (λ (s : GhostState). s.extent) c.self.view_is) (w) c.then-self-inside.ensures
