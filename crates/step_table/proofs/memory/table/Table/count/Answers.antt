use Rattle.std.proofs.Common.{◌≡◌, ℕ, cond, length, ◌==◌, sym, ap, ◌∙◌, subst, arith}
use Rattle.step_table.proofs.Prelude.{Count, funds_of, GhostState, number_of, TableInvariant}
use Rattle.step_table.proofs.Prelude.{told_number}
use Rattle.step_table.proofs.tables.Owners.{exact_count, kept_count, told, told_most, told_none}
use Rattle.step_table.proofs.tables.Owners.{told_word}
use Rattle.step_table.proofs.tables.Places.{inside, handle_busy, there}
use Rattle.step_table.proofs.tables.Standing.{found, kept_as, kept_now}
use Rattle.step_table.proofs.memory.table.Table.count.Goals as goal

pub block_word-requires-clause-block : goal.block_word-requires-clause-block
block_word-requires-clause-block c =
    let k : TableInvariant c.args.self.now = kept_now _ _ _ _ c.args.self.now c.self.invariant c.self.view_is in
    (there c.args.self.now c.args.pointer.block k (handle_busy c.args.self.now c.args.desk c.args.pointer.kind c.args.pointer.block _ k c.requires.held)).1.0

pub get-requires : goal.get-requires
get-requires c =
    let k : TableInvariant c.args.self.now = kept_now _ _ _ _ c.args.self.now c.self.invariant c.self.view_is in
    let i = inside c.args.self.now c.args.pointer.block 0 k (there c.args.self.now c.args.pointer.block k
    (handle_busy c.args.self.now c.args.desk c.args.pointer.kind c.args.pointer.block _ k c.requires.held)).1 (let q = c.requires in omega arith) in
    let w : c.self.inside.words ≡ c.args.self.now.words = ap (λ (s : GhostState). s.words) c.self.view_is in
    let b = c.block_word.ensures in
    omega (arith, i, b, ap (length {A = ℕ}) w)

pub invariant_of-self : goal.invariant_of-self
invariant_of-self c =
    let k : TableInvariant c.args.self.now = kept_now _ _ _ _ c.args.self.now c.self.invariant c.self.view_is in
    let w : c.self.inside.words ≡ c.args.self.now.words = ap (λ (s : GhostState). s.words) c.self.view_is in
    let f = found c.self.inside.words c.args.self.now.words c.block_word.result _ _ w c.block_word.ensures c.get.ensures in
    kept_as c.args.self.now c.args.desk (Count c.args.pointer.kind c.args.pointer.block c.args.pointer.place c.use_count_of-owners.result) _ _ _ _
    (kept_count c.args.self.now c.args.desk c.args.pointer.kind c.args.pointer.block c.args.pointer.place c.use_count_of-owners.result k
    c.requires.seat c.requires.idle
    c.requires.held (subst
    (λ (x : ℕ). c.use_count_of-owners.result ≡ cond (number_of x == 0) (cond (funds_of x == 0) 0 1) (number_of x)) f
    (told _ _ c.use_count_of-owners.ensures.counted c.use_count_of-owners.ensures.under_way c.use_count_of-owners.ensures.none)))
    (ap (λ (s : GhostState). s.extent) c.self.view_is)
    (w)
    c.then-self-inside.ensures

pub returns-clause-none : goal.returns-clause-none
returns-clause-none c =
    let k : TableInvariant c.args.self.now = kept_now _ _ _ _ c.args.self.now c.self.invariant c.self.view_is in
    let w : c.self.inside.words ≡ c.args.self.now.words = ap (λ (s : GhostState). s.words) c.self.view_is in
    let f = found c.self.inside.words c.args.self.now.words c.block_word.result _ _ w c.block_word.ensures c.get.ensures in
    told_none c.args.self.now c.args.desk c.args.pointer.kind c.args.pointer.block c.args.pointer.place c.use_count_of-owners.result k
    c.requires.seat c.requires.idle
    c.requires.held (subst
    (λ (x : ℕ). c.use_count_of-owners.result ≡ cond (number_of x == 0) (cond (funds_of x == 0) 0 1) (number_of x)) f
    (told _ _ c.use_count_of-owners.ensures.counted c.use_count_of-owners.ensures.under_way c.use_count_of-owners.ensures.none))

pub returns-clause-most : goal.returns-clause-most
returns-clause-most c =
    let k : TableInvariant c.args.self.now = kept_now _ _ _ _ c.args.self.now c.self.invariant c.self.view_is in
    let w : c.self.inside.words ≡ c.args.self.now.words = ap (λ (s : GhostState). s.words) c.self.view_is in
    let f = found c.self.inside.words c.args.self.now.words c.block_word.result _ _ w c.block_word.ensures c.get.ensures in
    told_most c.args.self.now c.args.desk c.args.pointer.kind c.args.pointer.block c.args.pointer.place c.use_count_of-owners.result k
    c.requires.seat c.requires.idle
    c.requires.held (subst
    (λ (x : ℕ). c.use_count_of-owners.result ≡ cond (number_of x == 0) (cond (funds_of x == 0) 0 1) (number_of x)) f
    (told _ _ c.use_count_of-owners.ensures.counted c.use_count_of-owners.ensures.under_way c.use_count_of-owners.ensures.none))

pub returns-clause-exact : goal.returns-clause-exact
returns-clause-exact c =
    let k : TableInvariant c.args.self.now = kept_now _ _ _ _ c.args.self.now c.self.invariant c.self.view_is in
    let w : c.self.inside.words ≡ c.args.self.now.words = ap (λ (s : GhostState). s.words) c.self.view_is in
    let f = found c.self.inside.words c.args.self.now.words c.block_word.result _ _ w c.block_word.ensures c.get.ensures in
    exact_count c.args.self.now c.args.desk c.args.pointer.kind c.args.pointer.block c.args.pointer.place c.use_count_of-owners.result k
    c.requires.seat c.requires.idle
    c.requires.held (subst
    (λ (x : ℕ). c.use_count_of-owners.result ≡ cond (number_of x == 0) (cond (funds_of x == 0) 0 1) (number_of x)) f
    (told _ _ c.use_count_of-owners.ensures.counted c.use_count_of-owners.ensures.under_way c.use_count_of-owners.ensures.none))

pub returns-clause-told : goal.returns-clause-told
returns-clause-told c =
    let k : TableInvariant c.args.self.now = kept_now _ _ _ _ c.args.self.now c.self.invariant c.self.view_is in
    let w : c.self.inside.words ≡ c.args.self.now.words = ap (λ (s : GhostState). s.words) c.self.view_is in
    let f = found c.self.inside.words c.args.self.now.words c.block_word.result _ _ w c.block_word.ensures c.get.ensures in
    told _ _ c.use_count_of-owners.ensures.counted c.use_count_of-owners.ensures.under_way c.use_count_of-owners.ensures.none
    ∙ sym (told_word c.get.result) ∙ ap told_number f
