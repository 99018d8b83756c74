-- Stores as lists of numbers.
use Rattle.std.proofs.Common.{◌≡◌, ℕ, zero, suc, ◌+◌, ◌-◌, ◌<◌, ◌≤◌, false, ◌⊎◌, List, [], ◌∷◌}
use Rattle.std.proofs.Common.{◌++◌, length, is_err, OnOk, Ok, Err, Result, sym, ap, ◌∙◌, subst}
use Rattle.std.proofs.Common.{⊎_elim, arith}
use Rattle.step_threads.proofs.Prelude.{All, AllByRecursion, false≢true, from, IsPermutation}
use Rattle.step_threads.proofs.Prelude.{numbers}
use Rattle.std.specs.BinaryHeap.{IsUpperBound, PopsGreatest}
use Rattle.std.specs.Ordering.{nat_cmp}
use Rattle.std.specs.declared.cmp.Reverse.{Reverse}
use Rattle.std.proofs.lemmas.List.Sorted.{All-permutation, IsPermutation-append_left, IsPermutation-map}
use Rattle.std.proofs.lemmas.List.Sorted.{IsPermutation-middle, IsPermutation-refl}
use Rattle.std.proofs.lemmas.List.Elements.{All-append, All-cons, All-from_recursion, All-head, All-tail}
use Rattle.std.proofs.lemmas.Map.Keys.{ge_from_not_lt}
use Rattle.step_threads.specs.Stocks.{IsNumber, IsOrdered}

-- one more block in a heap
pub pushed : (b : ℕ) (old new : List (Reverse ℕ)) (range : List ℕ) → IsPermutation (record { 0 = b } ∷ old) new
    → IsPermutation (b ∷ (numbers old ++ range)) (numbers new ++ range)
pushed b old new range p = IsPermutation-append_left range (b ∷ numbers old) (numbers new) (IsPermutation-map (λ (r : Reverse ℕ). r.0) _ _ p)

-- the numbers in a heap are those of blocks
pub pushed_valid : (b : ℕ) (old new : List (Reverse ℕ)) → IsPermutation (record { 0 = b } ∷ old) new → IsNumber b → All IsNumber (numbers old)
    → All IsNumber (numbers new)
pushed_valid b old new p is all =
    All-permutation IsNumber (b ∷ numbers old) (numbers new) (IsPermutation-map (λ (r : Reverse ℕ). r.0) _ _ p)
    (All-cons IsNumber b (numbers old) is all)

pub popped_valid : (b : ℕ) (old new : List (Reverse ℕ)) → IsPermutation old (record { 0 = b } ∷ new) → All IsNumber (numbers old)
    → IsNumber b × All IsNumber (numbers new)
popped_valid b old new p all =
    let rest = All-permutation IsNumber (numbers old) (b ∷ numbers new) (IsPermutation-map (λ (r : Reverse ℕ). r.0) _ _ p) all in
    (All-head IsNumber b (numbers new) rest, All-tail IsNumber b (numbers new) rest)

pub on_ok : {T E P : Type 0} (r : Result T E) → is_err r ≡ false → OnOk r P → P
on_ok (Ok x) e p = p
on_ok (Err y) e p = absurd (false≢true (sym e))

-- what a block that went out was
pub record WentOut (b : ℕ) (old new : List ℕ) : Type 0 where
  pub rest : IsPermutation old (b ∷ new)
  pub least : All (λ c. b ≤ c) old

least_of : (b : ℕ) (items : List (Reverse ℕ)) → IsUpperBound (λ (x y : Reverse ℕ). nat_cmp y.0 x.0) (record { 0 = b }) items
    → AllByRecursion (λ c. b ≤ c) (numbers items)
least_of b [] all = tt
least_of b (x ∷ xs) all = (ge_from_not_lt x.0 b all.0, least_of b xs all.1)

pub went_out : (b : ℕ) (old new : List (Reverse ℕ)) → IsOrdered old → IsPermutation old (record { 0 = b } ∷ new)
    → PopsGreatest (λ (x y : Reverse ℕ). nat_cmp y.0 x.0) old (record { 0 = b }) new → WentOut b (numbers old) (numbers new)
went_out b old new ordered p greatest =
    record {
      rest = IsPermutation-map (λ (r : Reverse ℕ). r.0) _ _ p;
      least = All-from_recursion (λ c. b ≤ c) (numbers old) (least_of b old (greatest ordered).1);
    }

-- blocks that were never taken
from_low : (b m n : ℕ) → b ≤ m → AllByRecursion (λ c. b ≤ c) (from m n)
from_low b m zero le = tt
from_low b m (suc n) le = (le, from_low b (suc m) n (omega (arith, le)))

all_from : (b m n : ℕ) → b ≤ m → All (λ c. b ≤ c) (from m n)
all_from b m n le = All-from_recursion (λ c. b ≤ c) (from m n) (from_low b m n le)

from_next : (next end : ℕ) → next < end → from next (end - next) ≡ next ∷ from (next + 1) (end - (next + 1))
from_next next end lt =
    let e : end - next ≡ suc (end - (next + 1)) = omega (arith, lt) in
    let f : suc next ≡ next + 1 = omega arith in
    ap (from next) e ∙ ap (λ (k : ℕ). next ∷ from k (end - (next + 1))) f

-- the least of the range goes out
pub next_out : (items : List (Reverse ℕ)) (next end : ℕ) → next < end → All (λ c. next ≤ c) (numbers items)
    → WentOut next (numbers items ++ from next (end - next)) (numbers items ++ from (next + 1) (end - (next + 1)))
next_out items next end lt low =
    record {
      rest =
          subst (λ (l : List ℕ). IsPermutation (numbers items ++ l) (next ∷ (numbers items ++ from (next + 1) (end - (next + 1)))))
          (sym (from_next next end lt)) (IsPermutation-middle (numbers items) next (from (next + 1) (end - (next + 1))));
      least = All-append (λ c. next ≤ c) (numbers items) (from next (end - next)) low (all_from next next (end - next) (omega arith));
    }

-- the least of those that came in goes out
pub returned_out : (b : ℕ) (old new : List (Reverse ℕ)) (next end : ℕ) → WentOut b (numbers old) (numbers new)
    → (next ≡ end) ⊎ ((b : ℕ) → All (λ c. b ≤ c) (numbers old) → b ≤ next)
    → WentOut b (numbers old ++ from next (end - next)) (numbers new ++ from next (end - next))
returned_out b old new next end out few =
    record {
      rest = IsPermutation-append_left (from next (end - next)) (numbers old) (b ∷ numbers new) out.rest;
      least =
          All-append (λ c. b ≤ c) (numbers old) (from next (end - next)) out.least
          (⊎_elim
          (λ (e : next ≡ end). subst (λ (n : ℕ). All (λ c. b ≤ c) (from next n)) (let z : 0 ≡ end - next = omega (arith, e) in z)
          (all_from b b 0 (omega arith)))
          (λ (low : (b : ℕ) → All (λ c. b ≤ c) (numbers old) → b ≤ next). all_from b next (end - next) (low b out.least))
          few);
    }

-- there is none
pub none_out : (items : List (Reverse ℕ)) (next end : ℕ) → length items ≡ 0
    → (next ≡ end) ⊎ ((b : ℕ) → All (λ c. b ≤ c) (numbers items) → b ≤ next) → numbers items ++ from next (end - next) ≡ []
none_out [] next end e few =
    ap (from next)
    (⊎_elim (λ (s : next ≡ end). let z : end - next ≡ 0 = omega (arith, s) in z)
    (λ (low : (b : ℕ) → All (λ c. b ≤ c) [] → b ≤ next). let l = low (suc next) (λ k d lt. absurd (omega (arith, lt))) in
    absurd (omega (arith, l))) few)
none_out (x ∷ xs) next end e few = absurd (omega arith)

-- all of those that came in are above, or one is not
pub peeked_above : (x : Reverse ℕ) (items : List (Reverse ℕ)) (next : ℕ)
    → IsUpperBound (λ (x y : Reverse ℕ). nat_cmp y.0 x.0) x items → next ≤ x.0
    → All (λ c. next ≤ c) (numbers items)
peeked_above x items next top le =
    let l = All-from_recursion (λ c. x.0 ≤ c) (numbers items) (least_of x.0 items top) in
    λ k d lt. let m = l k d lt in omega (arith, m, le)

-- a store at its start
pub all_new : (first count : ℕ) (items : List (Reverse ℕ)) (next end : ℕ) → items ≡ [] → next ≡ first → end ≡ first + count
    → IsPermutation (from first count) (numbers items ++ from next (end - next))
all_new first count items next end none at behind =
    let e : count ≡ end - first = omega (arith, behind) in
    subst (λ (l : List (Reverse ℕ)). IsPermutation (from first count) (numbers l ++ from next (end - next))) (sym none)
    (subst (λ (n : ℕ). IsPermutation (from first count) (from n (end - n))) (sym at)
    (subst (λ (n : ℕ). IsPermutation (from first count) (from first n)) e (IsPermutation-refl (from first count))))
