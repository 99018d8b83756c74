use Rattle.std.proofs.Common.{◌≡◌, ℕ, suc, ◌+◌, true, length, get_or, ◌==◌, ap, ◌∙◌, arith}
use Rattle.step_table.proofs.Prelude.{GhostState, Lock, Owner, spot, TableInvariant, Weak}
use Rattle.step_table.proofs.tables.Locks.{kept_lock}
use Rattle.step_table.proofs.tables.Owners.{room_above}
use Rattle.step_table.proofs.tables.Weaks.{none_left}
use Rattle.step_table.proofs.tables.Places.{handle_busy, inside, there}
use Rattle.step_table.proofs.tables.Standing.{found, kept_as, kept_now}
use Rattle.step_table.proofs.memory.table.Table.try_lock.Goals as goal

pub block_word-requires-clause-block : goal.block_word-requires-clause-block
block_word-requires-clause-block c =
    let k : TableInvariant c.args.self.now = kept_now _ _ _ _ c.args.self.now c.self.invariant c.self.view_is in
    (there c.args.self.now c.args.block k
    (handle_busy c.args.self.now c.args.desk Weak c.args.block c.args.place k c.requires.held)).1.0

pub get-now-requires : goal.get-now-requires
get-now-requires c =
    let k : TableInvariant c.args.self.now = kept_now _ _ _ _ c.args.self.now c.self.invariant c.self.view_is in
    let i = inside c.args.self.now c.args.block 0 k (there c.args.self.now c.args.block k
    (handle_busy c.args.self.now c.args.desk Weak c.args.block c.args.place k c.requires.held)).1 (let q = c.requires in omega arith) in
    let w : c.self.inside.words ≡ c.args.self.now.words = ap (λ (s : GhostState). s.words) c.self.view_is in
    let b = c.block_word.ensures in
    omega (arith, i, b, ap (length {A = ℕ}) w)

pub returns-then-now-found-clause-word : goal.returns-then-now-found-clause-word
returns-then-now-found-clause-word c =
    let k : TableInvariant c.args.self.now = kept_now _ _ _ _ c.args.self.now c.self.invariant c.self.view_is in
    let w : c.self.inside.words ≡ c.args.self.now.words = ap (λ (s : GhostState). s.words) c.self.view_is in
    let f = found c.self.inside.words c.args.self.now.words c.block_word.result _ _ w c.block_word.ensures c.get-now.ensures in
    f

pub returns-clause-word : goal.returns-clause-word
returns-clause-word c =
    let k : TableInvariant c.args.self.now = kept_now _ _ _ _ c.args.self.now c.self.invariant c.self.view_is in
    let w : c.self.inside.words ≡ c.args.self.now.words = ap (λ (s : GhostState). s.words) c.self.view_is in
    let f = found c.self.inside.words c.args.self.now.words c.block_word.result _ _ w c.block_word.ensures c.get-now.ensures in
    f

pub returns-then-now-found-clause-left : goal.returns-then-now-found-clause-left
returns-then-now-found-clause-left c =
    let k : TableInvariant c.args.self.now = kept_now _ _ _ _ c.args.self.now c.self.invariant c.self.view_is in
    let w : c.self.inside.words ≡ c.args.self.now.words = ap (λ (s : GhostState). s.words) c.self.view_is in
    let f = found c.self.inside.words c.args.self.now.words c.block_word.result _ _ w c.block_word.ensures c.get-now.ensures in
    ap (λ (n : ℕ). n == 0) f ∙ none_left c.args.self.now c.args.desk Weak c.args.block c.args.place k c.requires.seat c.requires.idle c.requires.held

pub returns-clause-left : goal.returns-clause-left
returns-clause-left c =
    let k : TableInvariant c.args.self.now = kept_now _ _ _ _ c.args.self.now c.self.invariant c.self.view_is in
    let w : c.self.inside.words ≡ c.args.self.now.words = ap (λ (s : GhostState). s.words) c.self.view_is in
    let f = found c.self.inside.words c.args.self.now.words c.block_word.result _ _ w c.block_word.ensures c.get-now.ensures in
    ap (λ (n : ℕ). n == 0) f ∙ none_left c.args.self.now c.args.desk Weak c.args.block c.args.place k c.requires.seat c.requires.idle c.requires.held

pub overflow_add-now : goal.overflow_add-now
overflow_add-now c =
    let k : TableInvariant c.args.self.now = kept_now _ _ _ _ c.args.self.now c.self.invariant c.self.view_is in
    let w : c.self.inside.words ≡ c.args.self.now.words = ap (λ (s : GhostState). s.words) c.self.view_is in
    let f = found c.self.inside.words c.args.self.now.words c.block_word.result _ _ w c.block_word.ensures c.get-now.ensures in
    let h = room_above c.args.self.now c.args.desk Owner Weak c.args.block c.args.place k c.requires.seat c.requires.idle c.requires.held in
    omega arith

pub block_word-requires-2-clause-block : goal.block_word-requires-2-clause-block
block_word-requires-2-clause-block c =
    let k : TableInvariant c.args.self.now = kept_now _ _ _ _ c.args.self.now c.self.invariant c.self.view_is in
    (there c.args.self.now c.args.block k
    (handle_busy c.args.self.now c.args.desk Weak c.args.block c.args.place k c.requires.held)).1.0

pub set-requires : goal.set-requires
set-requires c =
    let k : TableInvariant c.args.self.now = kept_now _ _ _ _ c.args.self.now c.self.invariant c.self.view_is in
    let i = inside c.args.self.now c.args.block 0 k (there c.args.self.now c.args.block k
    (handle_busy c.args.self.now c.args.desk Weak c.args.block c.args.place k c.requires.held)).1 (let q = c.requires in omega arith) in
    let w : c.self.inside.words ≡ c.args.self.now.words = ap (λ (s : GhostState). s.words) c.self.view_is in
    let b = c.block_word-2.ensures in
    omega (arith, i, b, ap (length {A = ℕ}) w)

pub invariant_of-self : goal.invariant_of-self
invariant_of-self c =
    let k : TableInvariant c.args.self.now = kept_now _ _ _ _ c.args.self.now c.self.invariant c.self.view_is in
    let w : c.self.inside.words ≡ c.args.self.now.words = ap (λ (s : GhostState). s.words) c.self.view_is in
    let f = found c.self.inside.words c.args.self.now.words c.block_word.result _ _ w c.block_word.ensures c.get-now.ensures in
    let z = c.if-now-found.false in
    kept_as c.args.self.now c.args.desk (Lock c.args.block c.args.place true) _ _ _ _
    (kept_lock c.args.self.now c.args.desk c.args.block c.args.place k c.requires.seat c.requires.idle c.requires.held
    (let q = c.requires.some in omega (arith, f, z, q)) c.requires.room)
    (ap (λ (s : GhostState). s.extent) c.self.view_is)
    (let e = c.block_word-2.ensures in
    let g : c.get-now.result + 1 ≡ suc (get_or c.args.self.now.words (spot c.args.block.0 0) 0) = omega (arith, f) in
    let s = c.set.ensures in cc) c.then-ghost_history.ensures
