use Rattle.std.proofs.Common.{◌≡◌, ℕ, length, ap, arith}
use Rattle.step_table.proofs.Prelude.{Claim, GhostState, TableInvariant}
use Rattle.step_table.proofs.tables.Making.{kept_claim}
use Rattle.step_table.proofs.tables.Places.{inside, making_place}
use Rattle.step_table.proofs.tables.Standing.{kept_as, kept_now}
use Rattle.step_table.proofs.memory.table.Table.claim.Goals as goal

pub block_word-requires-clause-block : goal.block_word-requires-clause-block
block_word-requires-clause-block c =
    let k : TableInvariant c.args.self.now = kept_now _ _ _ _ c.args.self.now c.self.invariant c.self.view_is in
    (making_place c.args.self.now c.args.desk c.args.block _ k c.requires.seat c.requires.making.making).0

pub set-requires : goal.set-requires
set-requires c =
    let k : TableInvariant c.args.self.now = kept_now _ _ _ _ c.args.self.now c.self.invariant c.self.view_is in
    let i = inside c.args.self.now c.args.block 0 k
    (making_place c.args.self.now c.args.desk c.args.block _ k c.requires.seat c.requires.making.making) (let q = c.requires in omega arith) in
    let w : c.self.inside.words ≡ c.args.self.now.words = ap (λ (s : GhostState). s.words) c.self.view_is in
    let b = c.block_word.ensures in
    omega (arith, i, b, ap (length {A = ℕ}) w)

pub invariant_of-self : goal.invariant_of-self
invariant_of-self c =
    let k : TableInvariant c.args.self.now = kept_now _ _ _ _ c.args.self.now c.self.invariant c.self.view_is in
    let w : c.self.inside.words ≡ c.args.self.now.words = ap (λ (s : GhostState). s.words) c.self.view_is in
    kept_as c.args.self.now c.args.desk (Claim c.args.block c.args.enabled c.args.null c.args.fields) _ _ _ _
    (kept_claim c.args.self.now c.args.desk c.args.block c.args.enabled c.args.null c.args.fields k c.requires.seat c.requires.making
    c.requires.known c.requires.room)
    (ap (λ (s : GhostState). s.extent) c.self.view_is)
    (let e = c.block_word.ensures in let s = c.set.ensures in cc)
    c.then-ghost_history.ensures
