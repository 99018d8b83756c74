-- How many handles of a kind a list has on a block.
use Rattle.std.proofs.Common.{◌≡◌, ℕ, zero, suc, ◌+◌, Bool, true, false, cond, not, ◌&&◌, List, []}
use Rattle.std.proofs.Common.{◌∷◌, ◌++◌, length, ◌==◌, refl, ap, ◌∙◌, arith, length-append}
use Rattle.leak_report.proofs.Prelude.{cond-false, cond-true, flat_map, flat_map-append, from, held_on}
use Rattle.leak_report.proofs.Prelude.{Holding, Kind, nil_right, NumberedHandle, Owner, same_kind}
use Rattle.leak_report.proofs.Prelude.{sum_below, tally, tally_append, upto, Weak}
use Rattle.std.specs.List.{filter}
use Rattle.std.proofs.lemmas.List.Elements.{filter-append}
use Rattle.control_word.proofs.lists.Tallies.{num}
use Rattle.leak_report.proofs.MoreLemmas.{from-suc}

abbrev pub is_of : Kind → Bool → Bool
is_of Owner owner = owner
is_of Weak owner = not owner

abbrev pub of_kind : Kind → Holding → Bool
of_kind k h = is_of k h.is_owner

abbrev pub hits : Kind → ℕ → List Holding → ℕ
hits k b hs = num (of_kind k) (held_on hs b)

pub kind_by : (k : Kind) (owner : Bool) → is_of k owner ≡ same_kind k (cond owner Owner Weak)
kind_by Owner true = refl
kind_by Owner false = refl
kind_by Weak true = refl
kind_by Weak false = refl

held_append : (xs ys : List Holding) (b : ℕ) → held_on (xs ++ ys) b ≡ held_on xs b ++ held_on ys b
held_append [] ys b = refl
held_append (x ∷ xs) ys b = go (x.to == b) (held_append xs ys b)
  where
    go : (t : Bool) → held_on (xs ++ ys) b ≡ held_on xs b ++ held_on ys b
        → cond t (x ∷ held_on (xs ++ ys) b) (held_on (xs ++ ys) b) ≡ cond t (x ∷ held_on xs b) (held_on xs b) ++ held_on ys b
    go true e = ap (λ (l : List Holding). x ∷ l) e
    go false e = e

pub hits_append : (k : Kind) (b : ℕ) (xs ys : List Holding) → hits k b (xs ++ ys) ≡ hits k b xs + hits k b ys
hits_append k b xs ys =
    let p = of_kind k in
    ap (num p) (held_append xs ys b) ∙ ap (length {A = Holding}) (filter-append p (held_on xs b) (held_on ys b))
    ∙ length-append (filter p (held_on xs b)) (filter p (held_on ys b))

-- lists one after another
pub hits_sum : (k : Kind) (b : ℕ) (f : ℕ → List Holding) (a n : ℕ)
    → hits k b (flat_map f (from a n)) ≡ sum_below n (λ i. hits k b (f (a + i)))
hits_sum k b f a zero = refl
hits_sum k b f a (suc n) =
    let e : hits k b (flat_map f (from a (suc n))) ≡ hits k b (flat_map f (from a n) ++ f (a + n)) =
    ap (λ (l : List ℕ). hits k b (flat_map f l)) (from-suc a n)
    ∙ ap (hits k b) (flat_map-append f (from a n) ((a + n) ∷ [])
    ∙ ap (λ (l : List Holding). flat_map f (from a n) ++ l) (nil_right (f (a + n)))) in
    let p = hits_append k b (flat_map f (from a n)) (f (a + n)) in
    let q = hits_sum k b f a n in
    omega (arith, e, p, q)

pub tally_sum : (k : Kind) (o : ℕ) (g : ℕ → List NumberedHandle) (n : ℕ) → tally k o (upto n g) ≡ sum_below n (λ i. tally k o (g i))
tally_sum k o g zero = refl
tally_sum k o g (suc n) = let p = tally_append k o (g n) (upto n g) in let q = tally_sum k o g n in omega (arith, p, q)

-- a list with one handle, if it is on the block, of this kind
pub one_by : {A : Type 0} → (p : Holding → Bool) (h : Holding) (x : A) (is here : Bool) → p h ≡ is
    → num p (cond here (h ∷ []) []) ≡ length (cond (is && here) (x ∷ []) [])
one_by p h x true true e = ap (length {A = Holding}) (cond-true (p h) (h ∷ []) [] e)
one_by p h x true false e = refl
one_by p h x false true e = ap (length {A = Holding}) (cond-false (p h) (h ∷ []) [] e)
one_by p h x false false e = refl

-- owners and weak handles are all
both_kinds : (l : List Holding) → num (of_kind Owner) l + num (of_kind Weak) l ≡ length l
both_kinds [] = refl
both_kinds (x ∷ xs) = go (x.is_owner) (both_kinds xs)
  where
    go : (t : Bool) → num (of_kind Owner) xs + num (of_kind Weak) xs ≡ length xs
        → length (cond t (x ∷ filter (of_kind Owner) xs) (filter (of_kind Owner) xs))
        + length (cond (not t) (x ∷ filter (of_kind Weak) xs) (filter (of_kind Weak) xs)) ≡ suc (length xs)
    go true e = omega (arith, e)
    go false e = omega (arith, e)

pub all_kinds : (b : ℕ) (hs : List Holding) → hits Owner b hs + hits Weak b hs ≡ length (held_on hs b)
all_kinds b hs = both_kinds (held_on hs b)
