-- Elements that come to the places of their keys.
use Rattle.std.proofs.Common.{◌≡◌, ◌∙◌, ◌⊎◌, ◌+◌, ◌<◌, ◌≤◌, ℕ, suc, zero, refl, sym, subst, arith, add-one, inl, inr}
use Rattle.std.proofs.Common.{Bool, true, List, [], ◌∷◌, ◌++◌, length, length-append}
use Rattle.std.proofs.Common.{Option, None, Result, Ok, Err, OnOk, slice_index_or, slice_set}
use Rattle.std.proofs.lemmas.Bool.{cases_eq}
use Rattle.std.proofs.lemmas.List.{get_or_default, get_or-set_other}
use Rattle.std.proofs.lemmas.List.Elements.{All-append}
use Rattle.std.proofs.lemmas.List.Sorted.{All-permutation, length_permutation}
use Rattle.std.specs.Fn.{Mut}
use Rattle.std.specs.List.{All}
use Rattle.std.specs.List.Sorted.{IsPermutation, IsSorted}
use Rattle.std.specs.Ordering.{nat_cmp, ordering_then}
use Rattle.std.specs.declared.cmp.Ordering.{Ordering}
use denote.Ref.{Bor}
use Rattle.control_block.specs.Desks.{DeskNow}
use Rattle.pointers.specs.Sites.{Site}
use Rattle.pointers.specs.declared.fault.Fault.{Fault}
use Rattle.pointers.specs.declared.known.Known.{Known}
use Rattle.shared_vec.proofs.EndSteps.{here_or_on}
use Rattle.shared_vec.specs.Changes.{Copies}
use Rattle.shared_vec.specs.Sorts.{Comes, ComesAll, IsPlaced, Keys, KeysAll, Sorts, WhyNoKeys}
use Rattle.shared_vec.specs.Vectors.{Gets}
use Rattle.shared_vec.specs.Walks.{Tells}

module _ {V K : Type 0} (o : DeskNow V) where
  -- what an index of the list read is what the place names
  pub comes : (s : Site V) (order : List (K × ℕ)) (i : ℕ) (x : K × ℕ) → i < length order
      → ((slice_index_or order i x).1 ≡ i) ⊎ Copies o s (slice_index_or order i x).1 i → Comes o s order i
  comes s order i x below came d =
      subst (λ (y : K × ℕ). (y.1 ≡ i) ⊎ Copies o s y.1 i) (get_or_default order i x d below) came

  marked : (s : Site V) (order : List (K × ℕ)) (placed : List Bool) (p i : ℕ) (b : Bool) → IsPlaced o s order placed
      → Comes o s order p → i < length order → slice_index_or (slice_set placed p true) i b ≡ true
      → (i ≡ p) ⊎ (i ≡ p → ⊥) → Comes o s order i
  marked s order placed p i b before came below mark (inl same) = subst (Comes o s order) (sym same) came
  marked s order placed p i b before came below mark (inr other) =
      before i b below (sym (get_or-set_other placed p i true b other) ∙ mark)

  -- one more is marked
  pub placed_on : (s : Site V) (order : List (K × ℕ)) (placed : List Bool) (p : ℕ) → IsPlaced o s order placed
      → Comes o s order p → IsPlaced o s order (slice_set placed p true)
  placed_on s order placed p before came i b below mark =
      marked s order placed p i b before came below mark (cases_eq i p)

  -- the places below the next one
  comes_at : (s : Site V) (order : List (K × ℕ)) (n i : ℕ) → ((k : ℕ) → k < n → Comes o s order k) → Comes o s order n
      → (i ≡ n) ⊎ (suc i ≤ n) → Comes o s order i
  comes_at s order n i before came (inl same) = subst (Comes o s order) (sym same) came
  comes_at s order n i before came (inr under) = before i (omega (arith, under))

  pub comes_on : (s : Site V) (order : List (K × ℕ)) (n i : ℕ) → ((k : ℕ) → k < n → Comes o s order k)
      → Comes o s order n → i < n + 1 → Comes o s order i
  comes_on s order n i before came below = comes_at s order n i before came (here_or_on i n (omega (arith, below)))

  -- the first place, once the one that is looked at has its element
  pub comes_first : (s : Site V) (order : List (K × ℕ)) (start p : ℕ) → (p ≡ start) ⊎ Comes o s order start
      → Comes o s order p → Comes o s order start
  comes_first s order start p (inl same) came = subst (Comes o s order) same came
  comes_first s order start p (inr first) came = first

  -- the element that was first in hand came to the place that names its index
  pub placed_last : {E : Type 0} (s : Site V) (order : List (K × ℕ)) (placed : List Bool) (start p : ℕ) (x : K × ℕ)
      (r : Result (Unit {0}) E) → IsPlaced o s order placed → p < length order → (slice_index_or order p x).1 ≡ start
      → OnOk r (Copies o s start p) → OnOk r (IsPlaced o s order (slice_set placed p true))
  placed_last s order placed start p x (Err why) before below same copied = tt
  placed_last s order placed start p x (Ok done) before below same copied =
      placed_on s order placed p before
      (comes s order p x below (inr (subst (λ (j : ℕ). Copies o s j p) (sym same) copied)))

module _ {V E F K : Type 0} (o : DeskNow V) (Is : Known V → E → Type 0)
    (g : Mut F (Bor E × Unit {0}) (Result K Fault)) where
  pub keys_on : (s : Site V) (n : ℕ) (f m h : F) (fewer keys : List (K × ℕ)) (key : K) → Keys o Is g s n f fewer m
      → keys ≡ fewer ++ (key, n) ∷ [] → Tells (Gets o s) Is g n m (Ok key) h → Keys o Is g s (n + 1) f keys h
  keys_on s n f m h fewer keys key before is told =
      subst (λ (k : ℕ). Keys o Is g s k f keys h) (sym (add-one n)) (m, fewer, key, before, is, told)

  -- the indexes are those below the number of keys
  pub keys_length : (s : Site V) (n : ℕ) (f m : F) (keys : List (K × ℕ)) → Keys o Is g s n f keys m → length keys ≡ n
  keys_length s zero f m keys (none, same) = subst (λ (l : List (K × ℕ)). length l ≡ 0) (sym none) refl
  keys_length s (suc n) f m keys (before, fewer, key, rest, is, told) =
      let less : length fewer ≡ n = keys_length s n f before fewer rest in
      let more : length (fewer ++ (key, n) ∷ []) ≡ length fewer + 1 = length-append fewer ((key, n) ∷ []) in
      subst (λ (l : List (K × ℕ)). length l ≡ suc n) (sym is) (omega (arith, less, more))

  one_below : (n m' : ℕ) (key : K) → n < m' → All (λ (p : K × ℕ). p.1 < m') ((key, n) ∷ [])
  one_below n m' key under zero d below = under
  one_below n m' key under (suc k) d below = absurd (omega (arith, below))

  keys_below : (s : Site V) (n m' : ℕ) (f m : F) (keys : List (K × ℕ)) → Keys o Is g s n f keys m → n ≤ m'
      → All (λ (p : K × ℕ). p.1 < m') keys
  keys_below s zero m' f m keys (none, same) most =
      subst (All (λ (p : K × ℕ). p.1 < m')) (sym none) (λ k d below. absurd (omega (arith, below)))
  keys_below s (suc n) m' f m keys (before, fewer, key, rest, is, told) most =
      subst (All (λ (p : K × ℕ). p.1 < m')) (sym is)
      (All-append (λ (p : K × ℕ). p.1 < m') fewer ((key, n) ∷ [])
      (keys_below s n m' f before fewer rest (omega (arith, most)))
      (one_below n m' key (omega (arith, most))))

  below_all : (s : Site V) (f : F) (keys order : List (K × ℕ)) → KeysAll o Is g s f keys → IsPermutation keys order
      → All (λ (p : K × ℕ). p.1 < length order) order
  below_all s f keys order (n, last, is, ends) moved =
      let same : length keys ≡ n = keys_length s n f last keys is in
      let as_many : length order ≡ length keys = length_permutation keys order moved in
      All-permutation (λ (p : K × ℕ). p.1 < length order) keys order moved
      (keys_below s n (length order) f last keys is (omega (arith, same, as_many)))

  pub order_below : (s : Site V) (f : F) (keys order list : List (K × ℕ)) → KeysAll o Is g s f keys
      → IsPermutation keys order → list ≡ order → All (λ (p : K × ℕ). p.1 < length list) list
  order_below s f keys order list all moved same =
      subst (λ (l : List (K × ℕ)). All (λ (p : K × ℕ). p.1 < length l) l) (sym same) (below_all s f keys order all moved)

  pub sorts : {E' : Type 0} (cmp : K → K → Ordering) (s : Site V) (f : F) (keys order list : List (K × ℕ))
      (r : Result (Unit {0}) E') → KeysAll o Is g s f keys → IsPermutation keys order
      → IsSorted (λ (x : K × ℕ) (y : K × ℕ). ordering_then (cmp x.0 y.0) (nat_cmp x.1 y.1)) order → list ≡ order
      → OnOk r (ComesAll o s list) → OnOk r (Sorts o Is g cmp s f)
  sorts cmp s f keys order list (Err why) all moved sorted same came = tt
  sorts cmp s f keys order list (Ok done) all moved sorted same came =
      (keys, order, all, moved, sorted, subst (ComesAll o s) same came)

  pub keys_none : (s : Site V) (n : ℕ) (f m : F) (keys : List (K × ℕ)) (got : Option (Known V))
      → Keys o Is g s n f keys m → Gets o s n got → got ≡ None → KeysAll o Is g s f keys
  keys_none s n f m keys got is gets none = (n, m, is, inl (subst (Gets o s n) none gets))

  pub keys_last : (s : Site V) (n : ℕ) (f m : F) (keys : List (K × ℕ)) → Keys o Is g s n f keys m
      → n ≤ 18446744073709551615 → 18446744073709551615 ≤ n → KeysAll o Is g s f keys
  keys_last s n f m keys is most over = (n, m, is, inr (omega (arith, most, over)))

  pub keys_stopped : (s : Site V) (n : ℕ) (f m h : F) (keys : List (K × ℕ)) (why : Fault) → Keys o Is g s n f keys m
      → Tells (Gets o s) Is g n m (Err why) h → WhyNoKeys o Is g s f why
  keys_stopped s n f m h keys why is told = inr (inr (n, keys, m, h, is, told))
