use Rattle.std.proofs.Common.{◌≡◌, ℕ, length, ◌==◌, ap, ◌∙◌, arith}
use Rattle.step_table.proofs.Prelude.{Expired, GhostState, TableInvariant}
use Rattle.step_table.proofs.tables.Weaks.{kept_expired, none_left}
use Rattle.step_table.proofs.tables.Places.{handle_busy, inside, there}
use Rattle.step_table.proofs.tables.Standing.{found, kept_as, kept_now}
use Rattle.step_table.proofs.memory.table.Table.is_expired.Goals as goal

pub block_word-requires-clause-block : goal.block_word-requires-clause-block
block_word-requires-clause-block c =
    let k : TableInvariant c.args.self.now = kept_now _ _ _ _ c.args.self.now c.self.invariant c.self.view_is in
    (there c.args.self.now c.args.pointer.block k
    (handle_busy c.args.self.now c.args.desk c.args.pointer.kind c.args.pointer.block c.args.pointer.place k c.requires.held)).1.0

pub get-expired-requires : goal.get-expired-requires
get-expired-requires c =
    let k : TableInvariant c.args.self.now = kept_now _ _ _ _ c.args.self.now c.self.invariant c.self.view_is in
    let i = inside c.args.self.now c.args.pointer.block 0 k (there c.args.self.now c.args.pointer.block k
    (handle_busy c.args.self.now c.args.desk c.args.pointer.kind c.args.pointer.block c.args.pointer.place k c.requires.held)).1
    (let q = c.requires in omega arith) in
    let w : c.self.inside.words ≡ c.args.self.now.words = ap (λ (s : GhostState). s.words) c.self.view_is in
    let b = c.block_word.ensures in
    omega (arith, i, b, ap (length {A = ℕ}) w)

pub invariant_of-self : goal.invariant_of-self
invariant_of-self c =
    let k : TableInvariant c.args.self.now = kept_now _ _ _ _ c.args.self.now c.self.invariant c.self.view_is in
    let w : c.self.inside.words ≡ c.args.self.now.words = ap (λ (s : GhostState). s.words) c.self.view_is in
    let f = found c.self.inside.words c.args.self.now.words c.block_word.result _ _ w c.block_word.ensures c.get-expired.ensures in
    let z = ap (λ (n : ℕ). n == 0) f
    ∙ none_left c.args.self.now c.args.desk c.args.pointer.kind c.args.pointer.block c.args.pointer.place k c.requires.seat
    c.requires.idle c.requires.held in
    kept_as c.args.self.now c.args.desk (Expired c.args.pointer.kind c.args.pointer.block c.args.pointer.place (c.get-expired.result == 0)) _ _ _ _
    (kept_expired c.args.self.now c.args.desk c.args.pointer.kind c.args.pointer.block c.args.pointer.place
    (c.get-expired.result == 0) k c.requires.seat c.requires.idle
    c.requires.held z)
    (ap (λ (s : GhostState). s.extent) c.self.view_is) (w) c.then-self-inside.ensures

pub returns-clause-exact : goal.returns-clause-exact
returns-clause-exact c =
    let k : TableInvariant c.args.self.now = kept_now _ _ _ _ c.args.self.now c.self.invariant c.self.view_is in
    let w : c.self.inside.words ≡ c.args.self.now.words = ap (λ (s : GhostState). s.words) c.self.view_is in
    let f = found c.self.inside.words c.args.self.now.words c.block_word.result _ _ w c.block_word.ensures c.get-expired.ensures in
    ap (λ (n : ℕ). n == 0) f
    ∙ none_left c.args.self.now c.args.desk c.args.pointer.kind c.args.pointer.block c.args.pointer.place k c.requires.seat c.requires.idle c.requires.held
