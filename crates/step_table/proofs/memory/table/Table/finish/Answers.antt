use Rattle.std.proofs.Common.{◌≡◌, ℕ, length, ◌==◌, ap, ◌∙◌, arith}
use Rattle.step_table.proofs.Prelude.{Finish, GhostState, TableInvariant}
use Rattle.step_table.proofs.tables.Endings.{kept_finish, finished_vacant, some_weak}
use Rattle.step_table.proofs.tables.Owners.{whole_one}
use Rattle.step_table.proofs.tables.Places.{inside, ending_busy, there}
use Rattle.step_table.proofs.tables.Standing.{found, kept_as, kept_now}
use Rattle.step_table.proofs.memory.table.Table.finish.Goals as goal

pub block_word-requires-clause-block : goal.block_word-requires-clause-block
block_word-requires-clause-block c =
    let k : TableInvariant c.args.self.now = kept_now _ _ _ _ c.args.self.now c.self.invariant c.self.view_is in
    (there c.args.self.now c.args.block k (ending_busy c.args.self.now c.args.desk c.args.block c.requires.ending)).1.0

pub get-found-requires : goal.get-found-requires
get-found-requires c =
    let k : TableInvariant c.args.self.now = kept_now _ _ _ _ c.args.self.now c.self.invariant c.self.view_is in
    let i = inside c.args.self.now c.args.block 1 k (there c.args.self.now c.args.block k
    (ending_busy c.args.self.now c.args.desk c.args.block c.requires.ending)).1 (let q = c.requires in omega arith) in
    let w : c.self.inside.words ≡ c.args.self.now.words = ap (λ (s : GhostState). s.words) c.self.view_is in
    let b = c.block_word.ensures in
    omega (arith, i, b, ap (length {A = ℕ}) w)

pub block_word-requires-2-clause-block : goal.block_word-requires-2-clause-block
block_word-requires-2-clause-block c =
    let k : TableInvariant c.args.self.now = kept_now _ _ _ _ c.args.self.now c.self.invariant c.self.view_is in
    (there c.args.self.now c.args.block k (ending_busy c.args.self.now c.args.desk c.args.block c.requires.ending)).1.0

pub set-requires : goal.set-requires
set-requires c =
    let k : TableInvariant c.args.self.now = kept_now _ _ _ _ c.args.self.now c.self.invariant c.self.view_is in
    let i = inside c.args.self.now c.args.block 1 k (there c.args.self.now c.args.block k
    (ending_busy c.args.self.now c.args.desk c.args.block c.requires.ending)).1 (let q = c.requires in omega arith) in
    let w : c.self.inside.words ≡ c.args.self.now.words = ap (λ (s : GhostState). s.words) c.self.view_is in
    let b = c.block_word-2.ensures in
    omega (arith, i, b, ap (length {A = ℕ}) w)

pub overflow_sub-found : goal.overflow_sub-found
overflow_sub-found c =
    let k : TableInvariant c.args.self.now = kept_now _ _ _ _ c.args.self.now c.self.invariant c.self.view_is in
    let w : c.self.inside.words ≡ c.args.self.now.words = ap (λ (s : GhostState). s.words) c.self.view_is in
    let f = found c.self.inside.words c.args.self.now.words c.block_word.result _ _ w c.block_word.ensures c.get-found.ensures in
    let s = some_weak c.args.self.now c.args.desk c.args.block k c.requires.seat c.requires.idle c.requires.ending c.requires.cleared in
    omega arith

pub invariant_of-self : goal.invariant_of-self
invariant_of-self c =
    let k : TableInvariant c.args.self.now = kept_now _ _ _ _ c.args.self.now c.self.invariant c.self.view_is in
    let w : c.self.inside.words ≡ c.args.self.now.words = ap (λ (s : GhostState). s.words) c.self.view_is in
    let f = found c.self.inside.words c.args.self.now.words c.block_word.result _ _ w c.block_word.ensures c.get-found.ensures in
    kept_as c.args.self.now c.args.desk (Finish c.args.block c.is_last-vacant.result) _ _ _ _
    (kept_finish c.args.self.now c.args.desk c.args.block c.is_last-vacant.result k c.requires.seat c.requires.idle c.requires.ending c.requires.cleared
    (whole_one c.is_last-vacant.result c.get-found.result c.is_last-vacant.ensures ∙ ap (λ (n : ℕ). n == 1) f))
    (ap (λ (s : GhostState). s.extent) c.self.view_is)
    (let e = c.block_word-2.ensures in let s = c.set.ensures in cc)
    c.then-ghost_history.ensures

pub returns-clause-vacant : goal.returns-clause-vacant
returns-clause-vacant c =
    let k : TableInvariant c.args.self.now = kept_now _ _ _ _ c.args.self.now c.self.invariant c.self.view_is in
    let w : c.self.inside.words ≡ c.args.self.now.words = ap (λ (s : GhostState). s.words) c.self.view_is in
    let f = found c.self.inside.words c.args.self.now.words c.block_word.result _ _ w c.block_word.ensures c.get-found.ensures in
    finished_vacant c.args.self.now c.args.desk c.args.block _
    (kept_finish c.args.self.now c.args.desk c.args.block c.is_last-vacant.result k c.requires.seat c.requires.idle c.requires.ending c.requires.cleared
    (whole_one c.is_last-vacant.result c.get-found.result c.is_last-vacant.ensures ∙ ap (λ (n : ℕ). n == 1) f))
