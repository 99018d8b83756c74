-- Handles with their places as slots: what is listed and counted stays the same.
use Rattle.std.proofs.Common.{◌≡◌, ℕ, zero, suc, ◌+◌, ◌<◌, Bool, true, false, cond, not, List, []}
use Rattle.std.proofs.Common.{◌∷◌, ◌++◌, length, get_or, take, ◌==◌, Option, Some, None, refl, sym}
use Rattle.std.proofs.Common.{ap, ◌∙◌, arith, subst}
use Rattle.std.specs.Prelude.{All}
use Rattle.leak_report.proofs.Prelude.{AbstractState, all_held, AllCounted, census_of, Counts, filter}
use Rattle.leak_report.proofs.Prelude.{held_on, Holding, IsAmong, numbered, placed, State, state_in, take_more}
use Rattle.std.proofs.lemmas.List.Elements.{All-cons, All-head, All-nil, All-tail}
use Rattle.leak_report.specs.Holders.{AreCounted}
use Rattle.leak_report.specs.Left.{IsCountedAt}

numbered_last : (n : ℕ) (hs : List Holding) (h : Holding)
    → numbered n (hs ++ h ∷ []) ≡ numbered n hs ++ placed (n + length hs) h ∷ []
numbered_last n [] h =
    let e : n ≡ n + 0 = omega arith in ap (λ (k : ℕ). placed k h ∷ []) e
numbered_last n (x ∷ xs) h =
    let e : suc n + length xs ≡ n + suc (length xs) = omega arith in
    ap (λ (l : List Holding). placed n x ∷ l)
    (numbered_last (suc n) xs h ∙ ap (λ (k : ℕ). numbered (suc n) xs ++ placed k h ∷ []) e)

-- one handle more
pub numbered_more : (hs : List Holding) (i n : ℕ) (x d : Holding) (so_far next : List Holding)
    → i < length hs → so_far ≡ numbered 0 (take i hs) → next ≡ so_far ++ x ∷ []
    → length (take i hs) ≡ n → x ≡ placed n (get_or hs i d) → next ≡ numbered 0 (take (i + 1) hs)
numbered_more hs i n x d so_far next lt p q many is =
    let e : n ≡ 0 + length (take i hs) = omega (arith, many) in
    q ∙ ap (λ (l : List Holding). l ++ x ∷ []) p
    ∙ ap (λ (h : Holding). numbered 0 (take i hs) ++ h ∷ []) is
    ∙ ap (λ (k : ℕ). numbered 0 (take i hs) ++ placed k (get_or hs i d) ∷ []) e
    ∙ sym (numbered_last 0 (take i hs) (get_or hs i d))
    ∙ ap (numbered 0) (sym (take_more hs i d lt))

pub length_numbered : (n : ℕ) (hs : List Holding) → length (numbered n hs) ≡ length hs
length_numbered n [] = refl
length_numbered n (h ∷ hs) = ap suc (length_numbered (suc n) hs)

pub numbered_among : (blocks n : ℕ) (hs : List Holding) → All (IsAmong blocks) hs
    → All (IsAmong blocks) (numbered n hs)
numbered_among blocks n [] all = All-nil (IsAmong blocks)
numbered_among blocks n (h ∷ hs) all =
    let a = All-head (IsAmong blocks) h hs all in
    All-cons (IsAmong blocks) (placed n h) (numbered (suc n) hs) a
    (numbered_among blocks (suc n) hs (All-tail (IsAmong blocks) h hs all))

-- how many owners are listed, or weak handles, or both
abbrev kinds : (Bool → Bool) → List Holding → ℕ
kinds q hs = length (filter (λ (h : Holding). q h.is_owner) hs)

one_each : (is : Bool) (x y : Holding) (xs ys : List Holding) → length xs ≡ length ys
    → length (cond is (x ∷ xs) xs) ≡ length (cond is (y ∷ ys) ys)
one_each true x y xs ys e = ap suc e
one_each false x y xs ys e = e

kinds_on : (q : Bool → Bool) (n b : ℕ) (hs : List Holding)
    → kinds q (held_on (numbered n hs) b) ≡ kinds q (held_on hs b)
kinds_on q n b [] = refl
kinds_on q n b (h ∷ hs) = go (h.to == b) (kinds_on q (suc n) b hs)
  where
    go : (t : Bool) → kinds q (held_on (numbered (suc n) hs) b) ≡ kinds q (held_on hs b)
        → kinds q (cond t (placed n h ∷ held_on (numbered (suc n) hs) b) (held_on (numbered (suc n) hs) b))
        ≡ kinds q (cond t (h ∷ held_on hs b) (held_on hs b))
    go true e = one_each (q h.is_owner) (placed n h) h _ _ e
    go false e = e

none_on : (n b : ℕ) (hs : List Holding) → held_on hs b ≡ [] → held_on (numbered n hs) b ≡ []
none_on n b [] none = refl
none_on n b (h ∷ hs) none = go (h.to == b) none (none_on (suc n) b hs)
  where
    go : (t : Bool) → cond t (h ∷ held_on hs b) (held_on hs b) ≡ []
        → (held_on hs b ≡ [] → held_on (numbered (suc n) hs) b ≡ [])
        → cond t (placed n h ∷ held_on (numbered (suc n) hs) b) (held_on (numbered (suc n) hs) b) ≡ []
    go true e later = absurd (let z = ap (length {A = Holding}) e in omega (arith, z))
    go false e later = later e

counted_on : (n b : ℕ) (hs : List Holding) (o : Option Counts) → AreCounted (held_on hs b) o
    → AreCounted (held_on (numbered n hs) b) o
counted_on n b hs None none = none_on n b hs none
counted_on n b hs (Some c) are =
    (kinds_on (λ o. o) n b hs ∙ are.0, kinds_on not n b hs ∙ are.1)

-- numbered handles are counted as they were
pub numbered_counted : (blocks : ℕ) (s : State) (hs : List Holding) → AllCounted blocks s hs
    → AllCounted blocks s (numbered 0 hs)
numbered_counted blocks s hs all b from within =
    counted_on 0 b hs (census_of s b) (all b from within)

-- what cells hold at a scene is counted
pub counted_at : (c : AbstractState) (blocks : ℕ) (hs : List Holding) → blocks ≡ c.extent.shape.blocks
    → hs ≡ all_held (state_in c) blocks → AllCounted blocks (state_in c) hs → IsCountedAt c
counted_at c blocks hs all is h =
    numbered_counted c.extent.shape.blocks (state_in c) (all_held (state_in c) c.extent.shape.blocks)
    (subst (λ (n : ℕ). AllCounted n (state_in c) (all_held (state_in c) n)) all
    (subst (λ (l : List Holding). AllCounted blocks (state_in c) l) is h))

-- what is numbered is among the same blocks
pub held_among : (blocks n : ℕ) (cells slice held : List Holding) → n ≡ blocks → slice ≡ cells
    → held ≡ numbered 0 slice → All (IsAmong blocks) cells → All (IsAmong n) held
held_among blocks n cells slice held same is at all =
    subst (λ (m : ℕ). All (IsAmong m) held) (sym same)
    (subst (All (IsAmong blocks)) (sym (at ∙ ap (numbered 0) is)) (numbered_among blocks 0 cells all))
