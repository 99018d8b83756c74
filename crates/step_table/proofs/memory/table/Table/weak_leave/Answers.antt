use Rattle.std.proofs.Common.{◌≡◌, ℕ, length, ◌==◌, ap, ◌∙◌, arith}
use Rattle.step_table.proofs.Prelude.{GhostState, TableInvariant, Weak, WeakLeave}
use Rattle.step_table.proofs.tables.Owners.{whole_one}
use Rattle.step_table.proofs.tables.Weaks.{kept_weak_leave, left_vacant, some_handle}
use Rattle.step_table.proofs.tables.Places.{inside, handle_busy, there}
use Rattle.step_table.proofs.tables.Standing.{found, kept_as, kept_now}
use Rattle.step_table.proofs.memory.table.Table.weak_leave.Goals as goal

pub block_word-requires-clause-block : goal.block_word-requires-clause-block
block_word-requires-clause-block c =
    let k : TableInvariant c.args.self.now = kept_now _ _ _ _ c.args.self.now c.self.invariant c.self.view_is in
    (there c.args.self.now c.args.block k (handle_busy c.args.self.now c.args.desk Weak c.args.block _ k c.requires.held)).1.0

pub get-found-requires : goal.get-found-requires
get-found-requires c =
    let k : TableInvariant c.args.self.now = kept_now _ _ _ _ c.args.self.now c.self.invariant c.self.view_is in
    let i = inside c.args.self.now c.args.block 1 k (there c.args.self.now c.args.block k
    (handle_busy c.args.self.now c.args.desk Weak c.args.block _ k c.requires.held)).1 (let q = c.requires in omega arith) in
    let w : c.self.inside.words ≡ c.args.self.now.words = ap (λ (s : GhostState). s.words) c.self.view_is in
    let b = c.block_word.ensures in
    omega (arith, i, b, ap (length {A = ℕ}) w)

pub block_word-requires-2-clause-block : goal.block_word-requires-2-clause-block
block_word-requires-2-clause-block c =
    let k : TableInvariant c.args.self.now = kept_now _ _ _ _ c.args.self.now c.self.invariant c.self.view_is in
    (there c.args.self.now c.args.block k (handle_busy c.args.self.now c.args.desk Weak c.args.block _ k c.requires.held)).1.0

pub set-requires : goal.set-requires
set-requires c =
    let k : TableInvariant c.args.self.now = kept_now _ _ _ _ c.args.self.now c.self.invariant c.self.view_is in
    let i = inside c.args.self.now c.args.block 1 k (there c.args.self.now c.args.block k
    (handle_busy c.args.self.now c.args.desk Weak c.args.block _ k c.requires.held)).1 (let q = c.requires in omega arith) in
    let w : c.self.inside.words ≡ c.args.self.now.words = ap (λ (s : GhostState). s.words) c.self.view_is in
    let b = c.block_word-2.ensures in
    omega (arith, i, b, ap (length {A = ℕ}) w)

pub overflow_sub-found : goal.overflow_sub-found
overflow_sub-found c =
    let k : TableInvariant c.args.self.now = kept_now _ _ _ _ c.args.self.now c.self.invariant c.self.view_is in
    let w : c.self.inside.words ≡ c.args.self.now.words = ap (λ (s : GhostState). s.words) c.self.view_is in
    let f = found c.self.inside.words c.args.self.now.words c.block_word.result _ _ w c.block_word.ensures c.get-found.ensures in
    let s = some_handle c.args.self.now c.args.desk c.args.block c.args.place k c.requires.seat c.requires.idle c.requires.held in
    omega arith

pub invariant_of-self : goal.invariant_of-self
invariant_of-self c =
    let k : TableInvariant c.args.self.now = kept_now _ _ _ _ c.args.self.now c.self.invariant c.self.view_is in
    let w : c.self.inside.words ≡ c.args.self.now.words = ap (λ (s : GhostState). s.words) c.self.view_is in
    let f = found c.self.inside.words c.args.self.now.words c.block_word.result _ _ w c.block_word.ensures c.get-found.ensures in
    kept_as c.args.self.now c.args.desk (WeakLeave c.args.block c.args.place c.is_last-vacant.result) _ _ _ _
    (kept_weak_leave c.args.self.now c.args.desk c.args.block c.args.place c.is_last-vacant.result k c.requires.seat c.requires.idle
    c.requires.held (whole_one c.is_last-vacant.result c.get-found.result c.is_last-vacant.ensures ∙ ap (λ (n : ℕ). n == 1) f))
    (ap (λ (s : GhostState). s.extent) c.self.view_is)
    (let e = c.block_word-2.ensures in let s = c.set.ensures in cc)
    c.then-ghost_history.ensures

pub returns-clause-vacant : goal.returns-clause-vacant
returns-clause-vacant c =
    let k : TableInvariant c.args.self.now = kept_now _ _ _ _ c.args.self.now c.self.invariant c.self.view_is in
    let w : c.self.inside.words ≡ c.args.self.now.words = ap (λ (s : GhostState). s.words) c.self.view_is in
    let f = found c.self.inside.words c.args.self.now.words c.block_word.result _ _ w c.block_word.ensures c.get-found.ensures in
    left_vacant c.args.self.now c.args.desk c.args.block c.args.place _
    (kept_weak_leave c.args.self.now c.args.desk c.args.block c.args.place c.is_last-vacant.result k c.requires.seat c.requires.idle
    c.requires.held (whole_one c.is_last-vacant.result c.get-found.result c.is_last-vacant.ensures ∙ ap (λ (n : ℕ). n == 1) f))
