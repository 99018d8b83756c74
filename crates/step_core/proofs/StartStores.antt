-- At the start each block is in the store of the desk that it is given to.
use Rattle.std.proofs.Common.{◌≡◌, ℕ, zero, suc, ◌+◌, ◌-◌, ◌*◌, ◌/◌, ◌<◌, ◌≤◌, Bool, false, cond}
use Rattle.std.proofs.Common.{◌≢◌, ◌⊎◌, List, [], ◌∷◌, length, IfOk, nat_lt, ◌==◌, Ok, Err, Result}
use Rattle.std.proofs.Common.{sym, refl, ap, ◌∙◌, inl, inr, ⊎_elim, arith, le-ltb, lt-ltb, eq-eqb}
use Rattle.std.proofs.Common.{ne_eqb}
use Rattle.step_core.proofs.Prelude.{and_from, cases_eq, cases_lt, cond-false, cond-true}
use Rattle.step_core.proofs.Prelude.{cond_both, Extent, first_ghost, num, num_cons, Rest, Stored}
use Rattle.step_core.proofs.Prelude.{stored, sum_by-cons}
use Rattle.std.proofs.lemmas.List.Sorted.{sum_by-IsPermutation}
use Rattle.std.proofs.lemmas.Nat.{le-div}
use Rattle.std.proofs.Math.Nat.{div-lt_iff_lt-mul, div-mul-le_self, mul-le-mul_left, mul-suc}
use Rattle.std.proofs.Math.Nat.{mul_comm, zero-mul}
use Rattle.std.specs.List.Sorted.{IsPermutation}
use Rattle.control_word.specs.State.{all_stored, same_stored}
use Rattle.step_threads.specs.Actors.{Stocks, in_list}
use Rattle.step_table.specs.Openings.{each_stock}
use Rattle.step_threads.specs.Stocks.{StoreView as Blocks, from}

-- numbers from f on
from_below : (b f n : ℕ) → b < f → in_list b (from f n) ≡ 0
from_below b f zero lt = refl
from_below b f (suc n) lt =
    let s = sum_by-cons (λ (c : ℕ). cond (c == b) 1 0) f (from (suc f) n) in
    let i = from_below b (suc f) n (omega arith) in
    let e = cond-false {A = ℕ} (f == b) 1 0 (ne_eqb f b (λ q. absurd (omega arith))) in omega (arith, s, i, e)

from_above : (b f n : ℕ) → f + n ≤ b → in_list b (from f n) ≡ 0
from_above b f zero le = refl
from_above b f (suc n) le =
    let s = sum_by-cons (λ (c : ℕ). cond (c == b) 1 0) f (from (suc f) n) in
    let i = from_above b (suc f) n (omega arith) in
    let e = cond-false {A = ℕ} (f == b) 1 0 (ne_eqb f b (λ q. absurd (omega arith))) in omega (arith, s, i, e)

from_within : (b f n : ℕ) → f ≤ b → b < f + n → in_list b (from f n) ≡ 1
from_within b f zero le lt = absurd (omega arith)
from_within b f (suc n) le lt =
    let s = sum_by-cons (λ (c : ℕ). cond (c == b) 1 0) f (from (suc f) n) in
    ⊎_elim
    (λ (q : f ≡ b).
    let i = from_below b (suc f) n (omega arith) in
    let e = cond-true {A = ℕ} (f == b) 1 0 (eq-eqb f b q) in omega (arith, s, i, e))
    (λ (q : f ≢ b).
    let i = from_within b (suc f) n (let d : f < b = omega arith in omega arith) (omega arith) in
    let e = cond-false {A = ℕ} (f == b) 1 0 (ne_eqb f b q) in omega (arith, s, i, e))
    (cases_eq f b)

-- all blocks, each in the store of the desk that h tells
one_of : (p : Stored → Bool) (x : Stored) → num p (x ∷ []) ≡ cond (p x) 1 0
one_of p x = cond_both (p x) (x ∷ []) [] (λ (l : List Stored). length l ≡ cond (p x) 1 0) (λ t. sym (cond-true (p x) 1 0 t))
    (λ t. sym (cond-false (p x) 1 0 t))

not_same : (d b e c : ℕ) → (e ≡ d → c ≡ b → ⊥) → same_stored (stored d b) (stored e c) ≡ false
not_same d b e c never =
    ⊎_elim (λ (q : d ≡ e). rw (eq-eqb d e q, ne_eqb b c (λ r. never (sym q) (sym r))) refl) (λ (q : d ≢ e). rw (ne_eqb d e q) refl) (cases_eq d e)

stored_not : (h : ℕ → ℕ) (d b n : ℕ) → ((k : ℕ) → k < n → h (suc k) ≡ d → suc k ≡ b → ⊥)
    → num (same_stored (stored d b)) (all_stored h n) ≡ 0
stored_not h d b zero never = refl
stored_not h d b (suc n) never =
    let s = num_cons (same_stored (stored d b)) (stored (h (suc n)) (suc n)) (all_stored h n) in
    let o = one_of (same_stored (stored d b)) (stored (h (suc n)) (suc n)) in
    let e = cond-false {A = ℕ} (same_stored (stored d b) (stored (h (suc n)) (suc n))) 1 0
    (not_same d b (h (suc n)) (suc n) (λ q r. never n (omega arith) q r)) in
    let i = stored_not h d b n (λ k lt q r. never k (omega arith) q r) in omega (arith, s, o, e, i)

stored_once : (h : ℕ → ℕ) (d b n : ℕ) → 0 < b → b ≤ n → h b ≡ d → num (same_stored (stored d b)) (all_stored h n) ≡ 1
stored_once h d b zero some le is = absurd (omega arith)
stored_once h d b (suc n) some le is =
    let s = num_cons (same_stored (stored d b)) (stored (h (suc n)) (suc n)) (all_stored h n) in
    let o = one_of (same_stored (stored d b)) (stored (h (suc n)) (suc n)) in
    ⊎_elim
    (λ (q : b ≡ suc n).
    let w : d ≡ h (suc n) = sym is ∙ ap h q in
    let e = cond-true {A = ℕ} (same_stored (stored d b) (stored (h (suc n)) (suc n))) 1 0
    (and_from _ _ (eq-eqb d (h (suc n)) w) (eq-eqb b (suc n) q)) in
    let i = stored_not h d b n (λ k lt q' r. absurd (omega arith)) in omega (arith, s, o, e, i))
    (λ (q : b ≢ suc n).
    let e = cond-false {A = ℕ} (same_stored (stored d b) (stored (h (suc n)) (suc n))) 1 0
    (not_same d b (h (suc n)) (suc n) (λ q' r. q (sym r))) in
    let i = stored_once h d b n some (let t : b < suc n = omega arith in omega arith) is in omega (arith, s, o, e, i))
    (cases_eq b (suc n))

-- of a desks, each has q blocks, and the last has the rest
abbrev holder : ℕ → ℕ → ℕ → ℕ
holder q a b = cond (nat_lt (q * (a - 1)) b) (a - 1) ((b - 1) / q)

holder_last : (q a b : ℕ) → q * (a - 1) < b → holder q a b ≡ a - 1
holder_last q a b lt = cond-true (nat_lt (q * (a - 1)) b) (a - 1) ((b - 1) / q) (lt-ltb _ _ lt)

holder_else : (q a b : ℕ) → b ≤ q * (a - 1) → holder q a b ≡ (b - 1) / q
holder_else q a b le = cond-false (nat_lt (q * (a - 1)) b) (a - 1) ((b - 1) / q) (le-ltb _ _ le)

some_each : (q n b : ℕ) → 0 < b → b ≤ q * n → 0 < q
some_each zero n b some le = let z = zero-mul n in omega (arith, z)
some_each (suc q) n b some le = omega arith

-- block b is at or behind the d-th beginning, or before it
quotient_low : (q b d : ℕ) → 0 < q → q * d < b → d ≤ (b - 1) / q
quotient_low q b d some lt = let m = mul_comm d q in le-div d (b - 1) q some (omega (arith, m))

quotient_high : (q b d : ℕ) → 0 < q → 0 < b → b ≤ q * d → (b - 1) / q < d
quotient_high q b d some one le = let m = mul_comm d q in (div-lt_iff_lt-mul {x = b - 1} {y = d} some).1 (omega (arith, m))

beginnings : (q d a : ℕ) → suc d < a → q * d + q ≤ q * (a - 1)
beginnings q d a lt = let m = mul-suc q d in let l = mul-le-mul_left {m = suc d} {n = a - 1} q (omega arith) in omega (arith, m, l)

holder_other : (q a b d : ℕ) → suc d < a → q * d < b → b ≤ q * d + q → holder q a b ≡ d
holder_other q a b d lt low high =
    let t = beginnings q d a lt in
    let some : 0 < q = omega arith in
    let m = mul-suc q d in
    let e = holder_else q a b (omega arith) in
    let l = quotient_low q b d some low in
    let h = quotient_high q b (suc d) some (omega arith) (omega (arith, m)) in omega (arith, e, l, h)

not_last : (q a b : ℕ) → 0 < b → b ≤ q * (a - 1) → holder q a b ≢ a - 1
not_last q a b some le is =
    let e = holder_else q a b le in
    let h = quotient_high q b (a - 1) (some_each q (a - 1) b some le) some le in omega (arith, e, h, is)

not_other : (q a b d : ℕ) → suc d < a → 0 < b → (b ≤ q * d) ⊎ (q * d + q < b) → holder q a b ≢ d
not_other q a b d lt some away is =
    ⊎_elim (λ (l : q * (a - 1) < b). let e = holder_last q a b l in omega (arith, e, is))
    (λ (l : b ≤ q * (a - 1)).
    let e = holder_else q a b l in
    let one = some_each q (a - 1) b some l in
    let m = mul-suc q d in
    ⊎_elim (λ (w : b ≤ q * d). let h = quotient_high q b d one some w in omega (arith, e, h, is))
    (λ (w : q * d + q < b). let h = quotient_low q b (suc d) one (omega (arith, m)) in omega (arith, e, h, is)) away)
    (cases_lt (q * (a - 1)) b)

-- how many blocks desk d has of n
pub record IsShare (n a d count : ℕ) : Type 0 where
  pub last : suc d ≡ a → count ≡ n - n / a * d
  pub other : suc d < a → count ≡ n / a

-- blocks begin within the table
pub share_fits : (n a d : ℕ) → d < a → n / a * d + n / a ≤ n
share_fits n a d lt =
    let m = mul-suc (n / a) d in let l = mul-le-mul_left {m = suc d} {n = a} (n / a) lt in let t = div-mul-le_self n a in omega (arith, m, l, t)

here : (n a d count b : ℕ) → d < a → IsShare n a d count → 0 < b → b ≤ n → n / a * d < b → b ≤ n / a * d + count → holder (n / a) a b ≡ d
here n a d count b lt share some le low high =
    ⊎_elim
    (λ (e : suc d ≡ a).
    let k : a - 1 ≡ d = omega arith in
    let m : n / a * (a - 1) ≡ n / a * d = ap (λ (j : ℕ). n / a * j) k in holder_last (n / a) a b (omega (arith, m)) ∙ k)
    (λ (e : suc d ≢ a).
    let l : suc d < a = omega arith in let c = share.other l in holder_other (n / a) a b d l low (omega (arith, c)))
    (cases_eq (suc d) a)

away : (n a d count b : ℕ) → d < a → IsShare n a d count → 0 < b → b ≤ n → (b ≤ n / a * d) ⊎ (n / a * d + count < b)
    → holder (n / a) a b ≢ d
away n a d count b lt share some le out is =
    ⊎_elim
    (λ (e : suc d ≡ a).
    let k : a - 1 ≡ d = omega arith in
    let m : n / a * (a - 1) ≡ n / a * d = ap (λ (j : ℕ). n / a * j) k in
    let c = share.last e in
    let t = share_fits n a d lt in
    not_last (n / a) a b some (⊎_elim (λ (w : b ≤ n / a * d). omega (arith, m)) (λ (w : n / a * d + count < b). absurd (omega (arith, c, t))) out)
    (is ∙ sym k))
    (λ (e : suc d ≢ a).
    let l : suc d < a = omega arith in
    let c = share.other l in
    not_other (n / a) a b d l some
    (⊎_elim (λ (w : b ≤ n / a * d). inl w) (λ (w : n / a * d + count < b). inr (omega (arith, c))) out) is)
    (cases_eq (suc d) a)

once : (n a d count b : ℕ) → d < a → IsShare n a d count
    → num (same_stored (stored d b)) (all_stored (holder (n / a) a) n) ≡ in_list b (from (n / a * d + 1) count)
once n a d count b lt share =
    let q = n / a * d in
    let fits = share_fits n a d lt in
    let none : (b ≤ q) ⊎ (q + count < b) → num (same_stored (stored d b)) (all_stored (holder (n / a) a) n) ≡ 0 =
    λ out. stored_not (holder (n / a) a) d b n
    (λ k l h e. away n a d count b lt share (omega arith) (omega arith) out (ap (λ (j : ℕ). holder (n / a) a j) (sym e) ∙ h)) in
    ⊎_elim (λ (l : b < q + 1). none (inl (omega arith)) ∙ sym (from_below b (q + 1) count l))
    (λ (l : q + 1 ≤ b).
    ⊎_elim
    (λ (h : b < q + 1 + count).
    let le : b ≤ n = ⊎_elim (λ (e : suc d ≡ a). let c = share.last e in omega (arith, c))
    (λ (e : suc d ≢ a). let c = share.other (omega arith) in omega (arith, c)) (cases_eq (suc d) a) in
    stored_once (holder (n / a) a) d b n (omega arith) le (here n a d count b lt share (omega arith) le (omega arith) (omega arith))
    ∙ sym (from_within b (q + 1) count l h))
    (λ (h : q + 1 + count ≤ b). none (inr (omega arith)) ∙ sym (from_above b (q + 1) count h)) (cases_lt b (q + 1 + count)))
    (cases_lt b (q + 1))

pub stocks_start : (x : Extent) (d count room : ℕ) (blocks : List ℕ) → d < x.actors → IsShare x.shape.blocks x.actors d count
    → IsPermutation (from (each_stock x * d + 1) count) blocks → x.shape.blocks ≤ room → Stocks d blocks room Rest (first_ghost x)
stocks_start x d count room blocks lt share p le =
    record {
      stocked = λ b.
          let o = once x.shape.blocks x.actors d count b lt share in
          let s = sum_by-IsPermutation (λ (c : ℕ). cond (c == b) 1 0) (from (each_stock x * d + 1) count) blocks p in omega (arith, o, s);
      roomy = le;
    }

pub stocks_if : {E : Type 0} (x : Extent) (d count : ℕ) (r : Result Blocks E) → d < x.actors → IsShare x.shape.blocks x.actors d count
    → IfOk r (λ s. IsPermutation (from (each_stock x * d + 1) count) s.blocks) → IfOk r (λ s. x.shape.blocks ≤ s.room)
    → IfOk r (λ s. Stocks d s.blocks s.room Rest (first_ghost x))
stocks_if x d count (Ok s) lt share p le = stocks_start x d count s.room s.blocks lt share p le
stocks_if x d count (Err e) lt share p le = tt
