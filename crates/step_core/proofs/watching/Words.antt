-- Words of cells, and the threads that have funds to put back into them.
use Rattle.std.proofs.Common.{◌≡◌, ℕ, zero, suc, ◌+◌, ◌-◌, ◌*◌, ◌<◌, ◌≤◌, Bool, true, false, cond}
use Rattle.std.proofs.Common.{◌&&◌, ◌≢◌, ◌⊎◌, List, [], ◌∷◌, length, get_or, set, ◌==◌}
use Rattle.std.proofs.Common.{slice_index, slice_set, Some, None, Option, sym, refl, ap, ◌∙◌}
use Rattle.std.proofs.Common.{subst, ⊎_elim, arith, get_or-set_other, eq-eqb}
use Rattle.step_core.proofs.Prelude
use Prelude.{and_from, Block, Brought, cell_bits, CellWord, Clearing, cond_both, filter, Free}
use Prelude.{GhostState, Giving, InShape, is_low, is_watching, IsCellWord, IsSite, Locking, Making}
use Prelude.{Matched, Member, more_taken, num, num_cons, opening, PendingCall, Place, Refill, Rest}
use Prelude.{Returning, same_value, Saw, Site, site_place, spot, word_of_cell}
use Rattle.control_word.proofs.packing.Cells.{cell_taken_in, field_fits, none_taken, owned_fits, same_cells}
use Rattle.control_word.proofs.packing.Fields.{rest_part}
use Rattle.control_word.specs.Handles.{same_place}
use Rattle.control_word.specs.Limits.{one_taken}
use Rattle.control_word.specs.Packing.{block_number, high_part, low_part, place_block, place_field}
use Rattle.control_word.specs.Packing.{taken_in, without_taken}
use Rattle.step_table.specs.Contents.{same_block}
use Rattle.step_core.specs.Watching.{watchers}

-- a thread counts once, where it has funds of the cell to put back
abbrev pub bit : ℕ → ℕ → ℕ → PendingCall → ℕ
bit blocks place word h = cond (is_watching blocks place word h) 1 0

pub flag : (b : Bool) → cond b 1 0 ≤ 1
flag true = omega arith
flag false = omega arith

one_of : (p : PendingCall → Bool) (h : PendingCall) → num p (h ∷ []) ≡ cond (p h) 1 0
one_of p h = go (p h)
  where
    go : (b : Bool) → length (cond b (h ∷ []) []) ≡ cond b 1 0
    go true = refl
    go false = refl

-- one thread has another pending call
num_set : (p : PendingCall → Bool) (l : List PendingCall) (d : ℕ) (h : PendingCall) → d < length l
    → num p (set l d h) + num p (get_or l d Rest ∷ []) ≡ num p l + num p (h ∷ [])
num_set p [] d h lt = absurd (omega arith)
num_set p (x ∷ xs) zero h lt = let a = num_cons p h xs in let b = num_cons p x xs in omega (arith, a, b)
num_set p (x ∷ xs) (suc d) h lt =
    let t = num_set p xs d h (omega arith) in
    let a = num_cons p x (set xs d h) in let b = num_cons p x xs in omega (arith, t, a, b)

-- only the value that a word tells says who has funds of it
watching_same : (blocks place a b : ℕ) → without_taken a ≡ without_taken b → (h : PendingCall) → is_watching blocks place a h ≡ is_watching blocks place b h
watching_same blocks place a b e Rest = refl
watching_same blocks place a b e (Making c i differs) = refl
watching_same blocks place a b e (Locking word) = refl
watching_same blocks place a b e (Giving i kind x) = refl
watching_same blocks place a b e Brought = refl
watching_same blocks place a b e (Saw x) = refl
watching_same blocks place a b e (Matched x) = refl
watching_same blocks place a b e (Refill stage c x k) = ap (λ (n : ℕ). site_place blocks c == place && is_low x && without_taken (cell_bits x) == n) e
watching_same blocks place a b e (Returning kind c funds k) = refl
watching_same blocks place a b e Clearing = refl

watchers_same : (blocks place a b : ℕ) (l : List PendingCall) → without_taken a ≡ without_taken b → watchers blocks place a l ≡ watchers blocks place b l
watchers_same blocks place a b l e = λ i. length (filter (λ (h : PendingCall). watching_same blocks place a b e h i) l)

-- a step of a thread leaves the cell's word, and the thread counts as it did, or does now; or few of the cell's funds
-- are taken; or one more is, and the thread counts now, and didn't
abbrev pub Watch : ℕ → ℕ → ℕ → ℕ → PendingCall → PendingCall → Type 0
Watch blocks place a b h g =
    ((b ≡ a) × (bit blocks place a h ≤ bit blocks place a g))
    ⊎ ((taken_in b ≤ 127) ⊎ ((b ≡ a + one_taken) × (bit blocks place a h ≡ 0) × (bit blocks place b g ≡ 1)))

-- one fund more is taken of a word: the value that it tells is the same, since it had room for that
one_more : (a : ℕ) → taken_in a < 262143 → (taken_in (a + one_taken) ≡ taken_in a + 1) × (without_taken (a + one_taken) ≡ without_taken a)
one_more a low = (omega (arith, low), omega (arith, low))

pub filter_few : (p : PendingCall → Bool) (l : List PendingCall) → length (filter p l) ≤ length l
filter_few p [] = omega arith
filter_few p (x ∷ xs) =
    let i = filter_few p xs in
    cond_both (p x) (x ∷ filter p xs) (filter p xs) (λ (l : List PendingCall). length l ≤ length (x ∷ xs)) (λ t. omega (arith, i)) (λ t. omega (arith, i))

pub watch : (blocks place a b d : ℕ) (h g : PendingCall) (l : List PendingCall) → length l ≤ 64 → d < length l
    → get_or l d Rest ≡ h → Watch blocks place a b h g
    → taken_in a ≤ 127 + watchers blocks place a l → taken_in b ≤ 127 + watchers blocks place b (set l d g)
watch blocks place a b d h g l few lt at w was = ⊎_elim same (λ r. ⊎_elim (λ low. omega (arith, low)) more r) w
  where
    counts : (n : ℕ) → watchers blocks place n (set l d g) + bit blocks place n h ≡ watchers blocks place n l + bit blocks place n g
    counts n =
        let p = is_watching blocks place n in
        let t = num_set p l d g lt in
        let x = one_of p (get_or l d Rest) ∙ ap (bit blocks place n) at in
        let y = one_of p g in
        omega (arith, t, x, y)

    same : (b ≡ a) × (bit blocks place a h ≤ bit blocks place a g) → taken_in b ≤ 127 + watchers blocks place b (set l d g)
    same s =
        subst (λ (n : ℕ). taken_in n ≤ 127 + watchers blocks place n (set l d g)) (sym s.0)
        (let c = counts a in let m = s.1 in omega (arith, was, c, m))

    more : (b ≡ a + one_taken) × (bit blocks place a h ≡ 0) × (bit blocks place b g ≡ 1)
        → taken_in b ≤ 127 + watchers blocks place b (set l d g)
    more s =
        let e = s.0 in
        let p = filter_few (is_watching blocks place a) l in
        let low : taken_in a < 262143 = omega (arith, was, p, few) in
        let up : taken_in b ≡ taken_in a + 1 = ap taken_in e ∙ (one_more a low).0 in
        let alike : without_taken b ≡ without_taken a = ap without_taken e ∙ (one_more a low).1 in
        let c = counts b in
        let o = watchers_same blocks place b a l alike in
        let z = ap {B = ℕ} (λ (t : Bool). cond t 1 0) (watching_same blocks place b a alike h) in
        let m = s.1 in
        let n = s.2 in
        omega (arith, was, up, c, o, z, m, n)

-- the first seven words of a block are none of a cell: its members are behind them
pub spot_off : (v : GhostState) (b j : ℕ) (c : Site) → InShape (opening v.extent) b → j < 7 → IsSite c → site_place v.extent.shape.blocks c ≢ spot b j
spot_off v b j (Free n) is lt there e = let low = is.0 in let high = is.1 in omega (arith, low, high, lt, e)
spot_off v b j (Member a m) is lt there e =
    let low = is.0 in let from = there.0 in let few = there.1 in omega (arith, low, lt, from, few, e)

pub block_off : (v : GhostState) (b j word : ℕ) → InShape (opening v.extent) b → j < 7 → (c : Site) → IsSite c
    → slice_index (slice_set v.words (spot b j) word) (site_place v.extent.shape.blocks c) ≡ word_of_cell v c
block_off v b j word is lt c there = get_or-set_other v.words (spot b j) (site_place v.extent.shape.blocks c) word 0 (spot_off v b j c is lt there)

-- what a cell's word tells, in numbers
pub taken_told : (x : CellWord) → IsCellWord x → taken_in (cell_bits x) ≡ x.taken
taken_told x valid = cell_taken_in x valid

-- the value with no fund taken
abbrev pub untaken : CellWord → CellWord
untaken x = record x { taken = 0 }

untaken_valid : (x : CellWord) → IsCellWord x → IsCellWord (untaken x)
untaken_valid x valid = record { owned = valid.owned; place = valid.place; taken = omega arith }

-- where all that was taken is put back, none is taken
pub refilled_told : (x : CellWord) → IsCellWord x → taken_in (cell_bits x - one_taken * x.taken) ≡ 0
refilled_told x valid =
    let n = none_taken x in
    let e : cell_bits x - one_taken * x.taken ≡ cell_bits (untaken x) = omega (arith, n) in
    ap taken_in e ∙ taken_told (untaken x) (untaken_valid x valid)

content_told : (x : CellWord) → IsCellWord x → without_taken (cell_bits x) ≡ cell_bits (untaken x)
content_told x valid =
    let o = block_number x.owned in
    let b = place_block x.place in
    let fits = owned_fits x.owned valid.owned in
    let r = rest_part (cell_bits x) (low_part o) (low_part b) (place_field x.place) x.taken (high_part o) (high_part b) refl (omega arith)
    (omega arith) (field_fits x.place valid.place) valid.taken (omega (arith, fits)) in
    let n = none_taken x in omega (arith, r, n)

place_self : (p : Option Place) → same_place p p ≡ true
place_self None = refl
place_self (Some x) = and_from _ _ (eq-eqb x.block.0 x.block.0 refl) (eq-eqb x.field x.field refl)

block_self : (o : Option Block) → same_block o o ≡ true
block_self None = refl
block_self (Some b) = eq-eqb b.0 b.0 refl

-- words that tell the same tell one value
pub same_told : (x y : CellWord) → IsCellWord x → IsCellWord y → without_taken (cell_bits x) ≡ without_taken (cell_bits y) → same_value x y ≡ true
same_told x y hx hy e =
    let same = same_cells (untaken x) (untaken y) (untaken_valid x hx) (untaken_valid y hy) (sym (content_told x hx) ∙ e ∙ content_told y hy) in
    let o = ap (λ (z : CellWord). z.owned) same in
    let q = ap (λ (z : CellWord). z.place) same in
    and_from _ _ (subst (λ (z : Option Block). same_block x.owned z ≡ true) o (block_self x.owned))
    (subst (λ (z : Option Place). same_place x.place z ≡ true) q (place_self x.place))

-- one fund more
pub more_told : (x : CellWord) → cell_bits (more_taken x) ≡ cell_bits x + one_taken
more_told x = omega arith
