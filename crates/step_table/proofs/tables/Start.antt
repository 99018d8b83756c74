-- A new table.
use Rattle.std.proofs.Common.{◌≡◌, ℕ, zero, suc, ◌+◌, ◌-◌, ◌*◌, ◌/◌, ◌%◌, ◌<◌, ◌≤◌, false, cond}
use Rattle.std.proofs.Common.{List, [], length, get_or, replicate, nat_lt, ◌==◌, sym, refl, ap}
use Rattle.std.proofs.Common.{◌∙◌, subst, inl, inr, arith, ltb-false, le-ltb, lt-ltb, ne_eqb}
use Rattle.step_table.proofs.Prelude.{cases_eq, cond-false, cond-true, cond_both, Extent, fresh}
use Rattle.step_table.proofs.Prelude.{Idle, Nothing, opening, ShutsNoDoor, Stands, table_size}
use Rattle.step_table.proofs.Prelude.{TableInvariant, used_up, View}
use Rattle.std.proofs.lemmas.Nat.{le-div}
use Rattle.std.proofs.Math.Nat.{div-add-mod, div-lt_iff_lt-mul, div-zero, mul_comm, mul-suc}
use Rattle.std.proofs.Math.Nat.{one-mul, suc-mul, zero-div}
use Rattle.control_word.proofs.words.Opening.{opens}
use Rattle.control_word.specs.State.{IsOpening, sum_below}
use Rattle.step_table.specs.Openings.{IsExtent, each_stock, holder_of, share_of}

-- of so many actors each has its share, and the first has the rest too
sums : (q r a n : ℕ) → 1 ≤ n → n ≤ a → sum_below n (λ d. cond (nat_lt d a) (q + cond (d == 0) r 0) 0) ≡ n * q + r
sums q r a zero one le = absurd (omega arith)
sums q r a (suc zero) one le = let t = cond-true (nat_lt 0 a) (q + r) 0 (lt-ltb 0 a le) in let m = one-mul q in omega (arith, t, m)
sums q r a (suc (suc n)) one le =
    let i = sums q r a (suc n) (omega arith) (omega arith) in
    let t = cond-true (nat_lt (suc n) a) (q + cond (suc n == 0) r 0) 0 (lt-ltb (suc n) a (omega arith)) in
    let u = cond-false (suc n == 0) r 0 (ne_eqb (suc n) 0 (λ e. absurd (omega arith))) in
    let m = suc-mul (suc n) q in
    omega (arith, i, t, u, m)

all_shares : (x : Extent) → IsExtent x → sum_below x.actors (share_of x) ≡ x.shape.allowance
all_shares x fine =
    sums (x.shape.allowance / x.actors) (x.shape.allowance % x.actors) x.actors x.actors fine.some (omega arith)
    ∙ div-add-mod x.shape.allowance x.actors

-- each actor may hold 40 handles or more
pub forty : (x : Extent) → IsExtent x → (d : ℕ) → d < x.actors → 40 ≤ share_of x d
forty x fine d lt =
    let q = le-div 40 x.shape.allowance x.actors fine.some fine.enough in
    let t = cond-true (nat_lt d x.actors) (x.shape.allowance / x.actors + cond (d == 0) (x.shape.allowance % x.actors) 0) 0 (lt-ltb d x.actors lt) in
    omega (arith, q, t)

low_part : (b q a : ℕ) → 1 ≤ a → b ≤ q * (a - 1) → (b - 1) / q < a
low_part b zero a one le = let z = div-zero (b - 1) in omega (arith, z)
low_part b (suc q) a one le =
    elim (cases_eq b 0) [
      | inl e ↦ let z = zero-div (suc q) in let t : (b - 1) / suc q ≡ 0 = ap (λ n. (n - 1) / suc q) e ∙ z in omega (arith, t)
      | inr ne ↦
          let m = mul-suc (suc q) (a - 1) in let s : suc (a - 1) ≡ a = omega arith in
          (div-lt_iff_lt-mul {x = b - 1} {y = a} (omega arith)).1 (let n : a * suc q ≡ suc q * (a - 1) + suc q = ap (λ k. k * suc q) (sym s)
          ∙ mul_comm _ _ ∙ m in omega (arith, n))
    ]

holder_low : (x : Extent) (b : ℕ) → IsExtent x → holder_of x b < x.actors
holder_low x b fine =
    let some = fine.some in
    cond_both (nat_lt (each_stock x * (x.actors - 1)) b) (x.actors - 1) ((b - 1) / each_stock x) (λ n. n < x.actors) (λ t. omega arith)
    (λ t. low_part b (each_stock x) x.actors fine.some (ltb-false _ _ t))

pub proper : (x : Extent) → IsExtent x → IsOpening (opening x)
proper x fine =
    record {
      limits = (let b = fine.blocks in omega (arith, b), let c = fine.cells in omega (arith, c), fine.allowance);
      members = (omega arith, omega arith);
      owners = (omega arith, omega arith);
      room =
          let b = fine.blocks in let c = fine.cells in let a = fine.allowance in (omega (arith, a, b, c), omega (arith, a, b, c));
      holders = λ b. holder_low x b fine;
      shares = all_shares x fine;
      positive = λ d lt. let f = forty x fine d lt in omega (arith, f);
      beyond = λ d le. cond-false (nat_lt d x.actors) _ 0 (le-ltb d x.actors le);
    }

fresh_size : (d n : ℕ) → length (fresh {V = Nothing} d n) ≡ n
fresh_size d zero = refl
fresh_size d (suc n) = let i = fresh_size (suc d) n in omega (arith, i)

pub fresh_at : (d n i : ℕ) → i < n → get_or (fresh {V = Nothing} d n) i used_up ≡ record { name = d + i; spent = false; pending = Idle; seen = [] }
fresh_at d zero i lt = absurd (omega arith)
fresh_at d (suc n) zero lt = let e : d ≡ d + 0 = omega arith in ap (λ (k : ℕ). record { name = k; spent = false; pending = Idle; seen = [] }) e
fresh_at d (suc n) (suc i) lt =
    let e : suc d + i ≡ d + suc i = omega arith in
    fresh_at (suc d) n i (omega arith) ∙ ap (λ (k : ℕ). record { name = k; spent = false; pending = Idle; seen = [] }) e

-- nothing is half done
idle_start : (d n e : ℕ) → ShutsNoDoor (get_or (fresh {V = Nothing} d n) e used_up).pending
idle_start d zero e = tt
idle_start d (suc n) zero = tt
idle_start d (suc n) (suc e) = idle_start (suc d) n e

-- a new table stands for the empty history
pub kept_start : (x : Extent) (words : List ℕ) → IsExtent x
    → words ≡ replicate (table_size x.shape) 0
    → TableInvariant (record { extent = x; words = words; views = fresh 0 x.actors; history = [] })
kept_start x words fine is =
    record {
      stands = subst (λ (w : List ℕ). Stands {V = Nothing} (opening x) w (fresh 0 x.actors) []) (sym is) (opens (opening x) (proper x fine));
      seats =
          record {
            size = fresh_size 0 x.actors;
            names = λ d lt. ap (λ (v : View Nothing). v.name) (fresh_at 0 x.actors d lt) ∙ (let e : 0 + d ≡ d = omega arith in e);
            awake = λ d lt. ap (λ (v : View Nothing). v.spent) (fresh_at 0 x.actors d lt);
          };
      doors = idle_start 0 x.actors;
      whole = λ o some le. absurd (omega arith);
      proper = fine;
      allowed = refl;
    }
