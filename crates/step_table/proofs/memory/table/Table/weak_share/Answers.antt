use Rattle.std.proofs.Common.{◌≡◌, ℕ, suc, ◌+◌, length, get_or, ap, arith}
use Rattle.step_table.proofs.Prelude.{GhostState, spot, TableInvariant, Weak, WeakShare}
use Rattle.step_table.proofs.tables.Owners.{room_above}
use Rattle.step_table.proofs.tables.Weaks.{kept_weak_share}
use Rattle.step_table.proofs.tables.Places.{inside, handle_busy, there}
use Rattle.step_table.proofs.tables.Standing.{found, kept_as, kept_now}
use Rattle.step_table.proofs.memory.table.Table.weak_share.Goals as goal

pub block_word-requires-clause-block : goal.block_word-requires-clause-block
block_word-requires-clause-block c =
    let k : TableInvariant c.args.self.now = kept_now _ _ _ _ c.args.self.now c.self.invariant c.self.view_is in
    (there c.args.self.now c.args.pointer.block k (handle_busy c.args.self.now c.args.desk c.args.pointer.kind c.args.pointer.block _ k c.requires.held)).1.0

pub get-found-requires : goal.get-found-requires
get-found-requires c =
    let k : TableInvariant c.args.self.now = kept_now _ _ _ _ c.args.self.now c.self.invariant c.self.view_is in
    let i = inside c.args.self.now c.args.pointer.block 1 k (there c.args.self.now c.args.pointer.block k
    (handle_busy c.args.self.now c.args.desk c.args.pointer.kind c.args.pointer.block _ k c.requires.held)).1 (let q = c.requires in omega arith) in
    let w : c.self.inside.words ≡ c.args.self.now.words = ap (λ (s : GhostState). s.words) c.self.view_is in
    let b = c.block_word.ensures in
    omega (arith, i, b, ap (length {A = ℕ}) w)

pub block_word-requires-2-clause-block : goal.block_word-requires-2-clause-block
block_word-requires-2-clause-block c =
    let k : TableInvariant c.args.self.now = kept_now _ _ _ _ c.args.self.now c.self.invariant c.self.view_is in
    (there c.args.self.now c.args.pointer.block k (handle_busy c.args.self.now c.args.desk c.args.pointer.kind c.args.pointer.block _ k c.requires.held)).1.0

pub set-requires : goal.set-requires
set-requires c =
    let k : TableInvariant c.args.self.now = kept_now _ _ _ _ c.args.self.now c.self.invariant c.self.view_is in
    let i = inside c.args.self.now c.args.pointer.block 1 k (there c.args.self.now c.args.pointer.block k
    (handle_busy c.args.self.now c.args.desk c.args.pointer.kind c.args.pointer.block _ k c.requires.held)).1 (let q = c.requires in omega arith) in
    let w : c.self.inside.words ≡ c.args.self.now.words = ap (λ (s : GhostState). s.words) c.self.view_is in
    let b = c.block_word-2.ensures in
    omega (arith, i, b, ap (length {A = ℕ}) w)

pub overflow_add-found : goal.overflow_add-found
overflow_add-found c =
    let k : TableInvariant c.args.self.now = kept_now _ _ _ _ c.args.self.now c.self.invariant c.self.view_is in
    let w : c.self.inside.words ≡ c.args.self.now.words = ap (λ (s : GhostState). s.words) c.self.view_is in
    let f = found c.self.inside.words c.args.self.now.words c.block_word.result _ _ w c.block_word.ensures c.get-found.ensures in
    let h = room_above c.args.self.now c.args.desk Weak c.args.pointer.kind c.args.pointer.block c.args.pointer.place k c.requires.seat
    c.requires.idle c.requires.held in
    omega arith

pub invariant_of-self : goal.invariant_of-self
invariant_of-self c =
    let k : TableInvariant c.args.self.now = kept_now _ _ _ _ c.args.self.now c.self.invariant c.self.view_is in
    let w : c.self.inside.words ≡ c.args.self.now.words = ap (λ (s : GhostState). s.words) c.self.view_is in
    let f = found c.self.inside.words c.args.self.now.words c.block_word.result _ _ w c.block_word.ensures c.get-found.ensures in
    kept_as c.args.self.now c.args.desk (WeakShare c.args.pointer.block c.args.place) _ _ _ _
    (kept_weak_share c.args.self.now c.args.desk c.args.pointer.kind c.args.pointer.block c.args.pointer.place c.args.place k c.requires.seat c.requires.held
    c.requires.idle c.requires.place c.requires.room)
    (ap (λ (s : GhostState). s.extent) c.self.view_is)
    (let e = c.block_word-2.ensures in
    let g : c.get-found.result + 1 ≡ suc (get_or c.args.self.now.words (spot c.args.pointer.block.0 1) 0) = omega (arith, f) in let s = c.set.ensures in cc)
    c.then-ghost_history.ensures
