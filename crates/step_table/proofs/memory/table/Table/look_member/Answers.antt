use Rattle.std.proofs.Common.{◌≡◌, ℕ, ◌+◌, length, sym, ap, ◌∙◌, arith}
use Rattle.step_table.proofs.Prelude.{Clear, GhostState, spot, TableInvariant}
use Rattle.step_table.proofs.tables.Endings.{kept_clear, member_shows}
use Rattle.step_table.proofs.tables.Places.{ending_busy, inside, there}
use Rattle.step_table.proofs.tables.Standing.{found, kept_as, kept_now}
use Rattle.step_table.proofs.memory.table.Table.look_member.Goals as goal

pub block_word-requires-clause-block : goal.block_word-requires-clause-block
block_word-requires-clause-block c =
    let k : TableInvariant c.args.self.now = kept_now _ _ _ _ c.args.self.now c.self.invariant c.self.view_is in
    (there c.args.self.now c.args.block k (ending_busy c.args.self.now c.args.desk c.args.block c.requires.ending)).1.0

pub get-found-requires : goal.get-found-requires
get-found-requires c =
    let k : TableInvariant c.args.self.now = kept_now _ _ _ _ c.args.self.now c.self.invariant c.self.view_is in
    let i = inside c.args.self.now c.args.block (7 + c.args.member) k (there c.args.self.now c.args.block k
    (ending_busy c.args.self.now c.args.desk c.args.block c.requires.ending)).1 (let q = c.requires in omega arith) in
    let w : c.self.inside.words ≡ c.args.self.now.words = ap (λ (s : GhostState). s.words) c.self.view_is in
    let b = (c.block_word.ensures ∙ ap (λ (m : ℕ). spot c.args.block.0 (7 + m)) c.from.ensures) in
    omega (arith, i, b, ap (length {A = ℕ}) w)

pub returns-then-found-gt0-clause-found : goal.returns-then-found-gt0-clause-found
returns-then-found-gt0-clause-found c =
    let k : TableInvariant c.args.self.now = kept_now _ _ _ _ c.args.self.now c.self.invariant c.self.view_is in
    let w : c.self.inside.words ≡ c.args.self.now.words = ap (λ (s : GhostState). s.words) c.self.view_is in
    let i = inside c.args.self.now c.args.block (7 + c.args.member) k (there c.args.self.now c.args.block k
    (ending_busy c.args.self.now c.args.desk c.args.block c.requires.ending)).1 (let q = c.requires in omega arith) in
    let f = found c.self.inside.words c.args.self.now.words c.block_word.result _ _ w (c.block_word.ensures
    ∙ ap (λ (m : ℕ). spot c.args.block.0 (7 + m)) c.from.ensures) c.get-found.ensures in
    f

pub returns-then-found-gt0-clause-empty : goal.returns-then-found-gt0-clause-empty
returns-then-found-gt0-clause-empty c =
    let k : TableInvariant c.args.self.now = kept_now _ _ _ _ c.args.self.now c.self.invariant c.self.view_is in
    let w : c.self.inside.words ≡ c.args.self.now.words = ap (λ (s : GhostState). s.words) c.self.view_is in
    let i = inside c.args.self.now c.args.block (7 + c.args.member) k (there c.args.self.now c.args.block k
    (ending_busy c.args.self.now c.args.desk c.args.block c.requires.ending)).1 (let q = c.requires in omega arith) in
    let f = found c.self.inside.words c.args.self.now.words c.block_word.result _ _ w (c.block_word.ensures
    ∙ ap (λ (m : ℕ). spot c.args.block.0 (7 + m)) c.from.ensures) c.get-found.ensures in
    let e = member_shows c.args.self.now c.args.desk c.args.block c.args.member k c.requires.seat c.requires.ending c.requires.inside in
    (λ z. e.0 (sym f ∙ z), λ z. f ∙ e.1 z)

pub returns-clause-found : goal.returns-clause-found
returns-clause-found c =
    let k : TableInvariant c.args.self.now = kept_now _ _ _ _ c.args.self.now c.self.invariant c.self.view_is in
    let w : c.self.inside.words ≡ c.args.self.now.words = ap (λ (s : GhostState). s.words) c.self.view_is in
    let i = inside c.args.self.now c.args.block (7 + c.args.member) k (there c.args.self.now c.args.block k
    (ending_busy c.args.self.now c.args.desk c.args.block c.requires.ending)).1 (let q = c.requires in omega arith) in
    let f = found c.self.inside.words c.args.self.now.words c.block_word.result _ _ w (c.block_word.ensures
    ∙ ap (λ (m : ℕ). spot c.args.block.0 (7 + m)) c.from.ensures) c.get-found.ensures in
    f

pub returns-clause-empty : goal.returns-clause-empty
returns-clause-empty c =
    let k : TableInvariant c.args.self.now = kept_now _ _ _ _ c.args.self.now c.self.invariant c.self.view_is in
    let w : c.self.inside.words ≡ c.args.self.now.words = ap (λ (s : GhostState). s.words) c.self.view_is in
    let i = inside c.args.self.now c.args.block (7 + c.args.member) k (there c.args.self.now c.args.block k
    (ending_busy c.args.self.now c.args.desk c.args.block c.requires.ending)).1 (let q = c.requires in omega arith) in
    let f = found c.self.inside.words c.args.self.now.words c.block_word.result _ _ w (c.block_word.ensures
    ∙ ap (λ (m : ℕ). spot c.args.block.0 (7 + m)) c.from.ensures) c.get-found.ensures in
    let e = member_shows c.args.self.now c.args.desk c.args.block c.args.member k c.requires.seat c.requires.ending c.requires.inside in
    (λ z. e.0 (sym f ∙ z), λ z. f ∙ e.1 z)

pub invariant_of-self : goal.invariant_of-self
invariant_of-self c =
    let k : TableInvariant c.args.self.now = kept_now _ _ _ _ c.args.self.now c.self.invariant c.self.view_is in
    let w : c.self.inside.words ≡ c.args.self.now.words = ap (λ (s : GhostState). s.words) c.self.view_is in
    let i = inside c.args.self.now c.args.block (7 + c.args.member) k (there c.args.self.now c.args.block k
    (ending_busy c.args.self.now c.args.desk c.args.block c.requires.ending)).1 (let q = c.requires in omega arith) in
    let f = found c.self.inside.words c.args.self.now.words c.block_word.result _ _ w (c.block_word.ensures
    ∙ ap (λ (m : ℕ). spot c.args.block.0 (7 + m)) c.from.ensures) c.get-found.ensures in
    let e = member_shows c.args.self.now c.args.desk c.args.block c.args.member k c.requires.seat c.requires.ending c.requires.inside in
    let z = c.if-found-gt0.false in
    kept_as c.args.self.now c.args.desk (Clear c.args.block c.args.member) _ _ _ _
    (kept_clear c.args.self.now c.args.desk c.args.block c.args.member k c.requires.seat c.requires.idle c.requires.ending c.requires.inside
    (e.0 (omega (arith, f, z))))
    (ap (λ (s : GhostState). s.extent) c.self.view_is) (w) c.then-self-inside.ensures
