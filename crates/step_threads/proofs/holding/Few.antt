-- A desk's store and its endings name each block of the shape once at most, so there is room for all of them.
use Rattle.std.proofs.Common.{◌≡◌, ℕ, zero, suc, ◌+◌, ◌<◌, ◌≤◌, true, false, cond, not, ◌≢◌, List}
use Rattle.std.proofs.Common.{[], ◌∷◌, length, ◌==◌, All, sym, refl, ap, ◌∙◌, subst, ⊎_elim, arith}
use Rattle.std.proofs.Common.{eq-eqb, ne_eqb, eqb-true}
use Rattle.step_threads.proofs.Prelude
use Prelude.{All-head, All-tail, and_parts, cases_eq, cond-false, cond-true, cond_both, Ending}
use Prelude.{ending_busy, endings_in_block, EndsAll, filter, GhostState, in_list, in_store}
use Prelude.{IsEndingAtStage, model_state, opening, same_stored, sound, State, stored, sum_by-cons}
use Prelude.{TableInvariant, there}
use Rattle.control_word.proofs.lists.Sums.{num_le}
use Rattle.control_word.specs.Laws.{how_often}
use Rattle.control_word.specs.State.{Stored as Kept_in}
use Rattle.step_threads.proofs.holding.Ends.{one_more}
use Rattle.step_threads.proofs.holding.Storing.{counted_stored}
use Rattle.step_threads.specs.Stocks.{HasRoomFor, StoreView}

-- numbers from 1 to n, each once at most, are n or fewer
without_number : (b c : ℕ) (l : List ℕ) → in_list c (filter (λ x. not (x == b)) l) ≤ in_list c l
without_number b c [] = omega arith
without_number b c (x ∷ xs) =
    let i = without_number b c xs in
    let a = sum_by-cons (λ (y : ℕ). cond (y == c) 1 0) x xs in
    cond_both (not (x == b)) (x ∷ filter (λ y. not (y == b)) xs) (filter (λ y. not (y == b)) xs) (λ r. in_list c r ≤ in_list c (x ∷ xs))
    (λ t. let k = sum_by-cons (λ (y : ℕ). cond (y == c) 1 0) x (filter (λ y. not (y == b)) xs) in omega (arith, i, a, k))
    (λ t. omega (arith, i, a))

none_left : (b : ℕ) (l : List ℕ) → in_list b (filter (λ x. not (x == b)) l) ≡ 0
none_left b [] = refl
none_left b (x ∷ xs) =
    let i = none_left b xs in
    ⊎_elim
    (λ (e : x ≡ b). let n : not (x == b) ≡ false = ap not (eq-eqb x b e) in ap (in_list b) (cond-false (not (x == b)) (x ∷ filter
    (λ y. not (y == b)) xs) (filter (λ y. not (y == b)) xs) n) ∙ i)
    (λ (e : x ≢ b). let n : not (x == b) ≡ true = ap not (ne_eqb x b e) in
    let a = sum_by-cons (λ (y : ℕ). cond (y == b) 1 0) x (filter (λ y. not (y == b)) xs) in
    let z = cond-false {A = ℕ} (x == b) 1 0 (ne_eqb x b e) in
    ap (in_list b) (cond-true (not (x == b)) (x ∷ filter (λ y. not (y == b)) xs) (filter (λ y. not (y == b)) xs) n)
    ∙ omega (arith, i, a, z)) (cases_eq x b)

parted : (b : ℕ) (l : List ℕ) → length l ≡ in_list b l + length (filter (λ x. not (x == b)) l)
parted b [] = refl
parted b (x ∷ xs) =
    let i = parted b xs in
    let a = sum_by-cons (λ (y : ℕ). cond (y == b) 1 0) x xs in
    ⊎_elim
    (λ (e : x ≡ b). let n : not (x == b) ≡ false = ap not (eq-eqb x b e) in
    let f = ap (length {A = ℕ}) (cond-false (not (x == b)) (x ∷ filter (λ y. not (y == b)) xs) (filter (λ y. not (y == b)) xs) n) in
    let z = cond-true {A = ℕ} (x == b) 1 0 (eq-eqb x b e) in omega (arith, i, a, f, z))
    (λ (e : x ≢ b). let n : not (x == b) ≡ true = ap not (ne_eqb x b e) in
    let f = ap (length {A = ℕ}) (cond-true (not (x == b)) (x ∷ filter (λ y. not (y == b)) xs) (filter (λ y. not (y == b)) xs) n) in
    let z = cond-false {A = ℕ} (x == b) 1 0 (ne_eqb x b e) in omega (arith, i, a, f, z)) (cases_eq x b)

pub few : (n : ℕ) (l : List ℕ) → ((b : ℕ) → in_list b l ≤ 1) → ((b : ℕ) → 0 < in_list b l → (1 ≤ b) × (b ≤ n)) → length l ≤ n
few zero [] once low = omega arith
few zero (x ∷ xs) once low =
    let a = sum_by-cons (λ (y : ℕ). cond (y == x) 1 0) x xs in
    let z = cond-true {A = ℕ} (x == x) 1 0 (eq-eqb x x refl) in
    let t = low x (omega (arith, a, z)) in absurd (let p = t.0 in let q = t.1 in omega (arith, p, q))
few (suc n) l once low =
    let r = filter (λ x. not (x == suc n)) l in
    let i = few n r (λ b. let w = without_number (suc n) b l in let o = once b in omega (arith, w, o))
    (λ b lt.
    let w = without_number (suc n) b l in
    let t = low b (omega (arith, w, lt)) in
    let p = t.0 in let q = t.1 in
    ⊎_elim (λ (e : b ≡ suc n). absurd (let z : in_list b r ≡ 0 = ap (λ (k : ℕ). in_list k r) e ∙ none_left (suc n) l in omega (arith, z, lt)))
    (λ (e : b ≢ suc n). (p, omega (arith, q, e))) (cases_eq b (suc n))) in
    let p = parted (suc n) l in let o = once (suc n) in omega (arith, i, p, o)

most_once : (d b : ℕ) (s : State) → in_store s d b ≤ how_often b s.stores
most_once d b s =
    num_le (same_stored (stored d b)) (λ (x : Kept_in). x.block == b) s.stores
    (λ x t. eq-eqb x.block b (sym (eqb-true _ _ (and_parts _ _ t).1)))

-- the store of a desk has each block of the shape once at most
pub store_few : (d : ℕ) (v : GhostState) (l : List ℕ) → TableInvariant v → ((b : ℕ) → in_store (model_state v) d b ≡ in_list b l)
    → length l ≤ v.extent.shape.blocks
store_few d v l kept same =
    let fine = sound (opening v.extent) v.history kept.stands.legal in
    few v.extent.shape.blocks l
    (λ b. let m = most_once d b (model_state v) in let o = fine.once b in let s = same b in omega (arith, m, o, s))
    (λ b lt. (fine.stores d b (counted_stored (stored d b) (model_state v).stores (let s = same b in omega (arith, s, lt)))).1)

-- a block that comes into the store of a desk is one of the shape, and the store has room for it
pub store_room : (d : ℕ) (v : GhostState) (b : ℕ) (s : StoreView) → TableInvariant v
    → ((c : ℕ) → in_store (model_state v) d c ≡ in_list c (b ∷ s.blocks)) → v.extent.shape.blocks ≤ s.room → HasRoomFor s b
store_room d v b s kept same roomy =
    let f = store_few d v (b ∷ s.blocks) kept same in
    let a = sum_by-cons (λ (y : ℕ). cond (y == b) 1 0) b s.blocks in
    let z = cond-true {A = ℕ} (b == b) 1 0 (eq-eqb b b refl) in
    let e = same b in
    let fine = sound (opening v.extent) v.history kept.stands.legal in
    let i = (fine.stores d b (counted_stored (stored d b) (model_state v).stores (omega (arith, a, z, e)))).1 in
    let least = i.0 in
    let most = i.1 in
    let few = kept.proper.blocks in
    ((omega (arith, least), omega (arith, most, few)), omega (arith, f, roomy))

abbrev blocks : List Ending → List ℕ
blocks [] = []
blocks (e ∷ es) = e.block.0 ∷ blocks es

blocks_length : (es : List Ending) → length (blocks es) ≡ length es
blocks_length [] = refl
blocks_length (e ∷ es) = ap suc (blocks_length es)

blocks_list : (b : ℕ) (es : List Ending) → in_list b (blocks es) ≡ endings_in_block b es
blocks_list b [] = refl
blocks_list b (e ∷ es) =
    let i = blocks_list b es in
    let a = sum_by-cons (λ (c : ℕ). cond (c == b) 1 0) e.block.0 (blocks es) in
    let o = one_more b e es in omega (arith, i, a, o)

-- an object that ends is in a block of the shape
blocks_in : (d : ℕ) (v : GhostState) (es : List Ending) (b : ℕ) → TableInvariant v → All (λ (e : Ending). IsEndingAtStage d e v) es → 0 < endings_in_block b es
    → (1 ≤ b) × (b ≤ v.extent.shape.blocks)
blocks_in d v [] b kept all lt = absurd (omega arith)
blocks_in d v (e ∷ es) b kept all lt =
    let o = one_more b e es in
    let is = All-head (λ (x : Ending). IsEndingAtStage d x v) e es all in
    let shape : (1 ≤ e.block.0) × (e.block.0 ≤ v.extent.shape.blocks) = (there v e.block kept (ending_busy v d e.block is.ending)).1 in
    ⊎_elim (λ (q : e.block.0 ≡ b). subst (λ (c : ℕ). (1 ≤ c) × (c ≤ v.extent.shape.blocks)) q shape)
    (λ (q : e.block.0 ≢ b). let z = cond-false {A = ℕ} (e.block.0 == b) 1 0 (ne_eqb e.block.0 b q) in
    blocks_in d v es b kept (All-tail (λ (x : Ending). IsEndingAtStage d x v) e es all) (omega (arith, o, z, lt))) (cases_eq e.block.0 b)

pub ends_few : (d : ℕ) (v : GhostState) (es : List Ending) → TableInvariant v → EndsAll d es v → length es ≤ v.extent.shape.blocks
ends_few d v es kept ends =
    let f = few v.extent.shape.blocks (blocks es)
    (λ b. let o = ends.once b in let s = blocks_list b es in omega (arith, o, s))
    (λ b lt. blocks_in d v es b kept ends.each (let s = blocks_list b es in omega (arith, s, lt))) in
    let l = blocks_length es in omega (arith, f, l)
