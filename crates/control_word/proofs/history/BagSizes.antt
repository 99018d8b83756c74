-- How many handles a desk has, as events change it.
use Rattle.std.proofs.Common.{◌≡◌, ℕ, zero, suc, ◌+◌, ◌<◌, ◌≤◌, Bool, true, false, ◌≢◌, List, []}
use Rattle.std.proofs.Common.{◌∷◌, map, length, ◌==◌, sym, refl, ap, ◌∙◌, inl, inr, ⊎_elim, arith}
use Rattle.std.proofs.Common.{eq-eqb, ne_eqb, eqb-true}
use Rattle.control_word.proofs.Prelude.{bag_size, cases_eq, Cell, cond-false, cond-true, cond_both}
use Rattle.control_word.proofs.Prelude.{filter, Free, gets, Has, has_object, HasAll, Held, held}
use Rattle.control_word.proofs.Prelude.{loses, Member, NumberedHandle, passed, renamed, same_held}
use Rattle.control_word.proofs.Prelude.{State, sum_below, swaps, without}
use Rattle.control_word.proofs.lists.Sums.{num_fewer, num_le, num_length, num_none, num_passes}
use Rattle.control_word.proofs.lists.Sums.{sum_plus, sum_zero}
use Rattle.control_word.proofs.lists.Tallies.{held_self, held_true, num, num_cons, num_map}

pub bag_others : (q d : ℕ) (h : NumberedHandle) (l : List Held) → q ≢ d
    → num (λ x. x.desk == q) (held d h ∷ l) ≡ num (λ x. x.desk == q) l
bag_others q d h l ne =
    let rest = filter (λ (x : Held). x.desk == q) l in
    ap length (cond-false (d == q) (held d h ∷ rest) rest (ne_eqb d q (λ e. ne (sym e))))

pub gets_others : (s : State) (q d : ℕ) (h : NumberedHandle) → q ≢ d → bag_size (gets d h s) q ≤ bag_size s q
gets_others s q d h ne =
    cond_both (has_object h) (held d h ∷ s.hands) s.hands (λ l. num (λ x. x.desk == q) l ≤ bag_size s q)
    (λ e. let t = bag_others q d h s.hands ne in omega arith) (λ e. omega arith)

pub loses_others : (s : State) (q d : ℕ) (h : NumberedHandle) → bag_size (loses d h s) q ≤ bag_size s q
loses_others s q d h =
    cond_both (has_object h) (without same_held (held d h) s.hands) s.hands
    (λ l. num (λ x. x.desk == q) l ≤ bag_size s q)
    (λ e. num_fewer same_held (λ x. x.desk == q) (held d h) s.hands) (λ e. omega arith)

pub swaps_others : (s : State) (q d : ℕ) (c : Cell) (new old : NumberedHandle) → q ≢ d
    → bag_size (swaps d c new old s) q ≤ bag_size s q
swaps_others s q d (Free c) new old ne =
    let a = gets_others (loses d new s) q d old ne in let b = loses_others s q d new in omega arith
swaps_others s q d (Member o m) new old ne =
    let a = gets_others (loses d new s) q d old ne in let b = loses_others s q d new in omega arith

-- a new desk has at most what it was handed, and the others no more than before
pub split_bag : (d to q : ℕ) (hs : List NumberedHandle) (l : List Held)
    → HasAll same_held (λ (h : NumberedHandle). held d h) hs l
    → let m = passed same_held (λ (h : NumberedHandle). held d h) (λ h. held to h) hs l in
    (num (λ x. x.desk == q) m ≤ length hs + num (λ x. x.desk == q) l)
    × (q ≢ to → num (λ x. x.desk == q) m ≤ num (λ x. x.desk == q) l)
split_bag d to q hs l there =
    let p = λ (x : Held). x.desk == q in
    let is = λ (h : NumberedHandle). held to h in
    let t = num_passes same_held held_true held_self (λ (h : NumberedHandle). held d h) is p hs l there in
    let u = num_map p is hs in (
      let w = num_length (λ (h : NumberedHandle). to == q) hs in omega arith,
      λ ne. let w = num_none (λ (h : NumberedHandle). to == q) hs (λ h. ne_eqb to q (λ e. ne (sym e))) in omega arith,
    )

renamed_here : (other d : ℕ) (b : Bool) (x : ℕ) → (x == other) ≡ b
    → (other ≢ d → (renamed other d x == other) ≡ false)
renamed_here other d true x e ne =
    ap (λ n. n == other) (cond-true (x == other) d x e) ∙ ne_eqb d other (λ t. ne (sym t))
renamed_here other d false x e ne = ap (λ n. n == other) (cond-false (x == other) d x e) ∙ e

renamed_else : (other d q : ℕ) (b : Bool) (x : ℕ) → (x == other) ≡ b → q ≢ d → (renamed other d x == q) ≡ true
    → (x == q) ≡ true
renamed_else other d q true x e ne t =
    absurd (let u = eqb-true _ q t in ne (sym u ∙ cond-true (x == other) d x e))
renamed_else other d q false x e ne t = ap (λ n. n == q) (sym (cond-false (x == other) d x e)) ∙ t

-- a joined desk has nothing left, and others than the two have no more than before
pub join_bag : (other d q : ℕ) (l : List Held)
    → let m = map (λ (x : Held). held (renamed other d x.desk) x.handle) l in
    (other ≢ d → num (λ x. x.desk == other) m ≡ 0)
    × (q ≢ d → num (λ x. x.desk == q) m ≤ num (λ x. x.desk == q) l)
join_bag other d q l =
    let f = λ (x : Held). held (renamed other d x.desk) x.handle in (
      λ ne.
          let p = λ (x : Held). renamed other d x.desk == other in
          num_map (λ (x : Held). x.desk == other) f l
          ∙ num_none p l (λ x. renamed_here other d _ x.desk refl ne),
      λ ne.
          let p = λ (x : Held). renamed other d x.desk == q in
          let t = num_map (λ (x : Held). x.desk == q) f l in
          let u = num_le p (λ x. x.desk == q) l (λ x e. renamed_else other d q _ x.desk refl ne e) in
          omega arith,
    )

-- one hand is in one bag
one_bag : (n : ℕ) (x : Held) → x.desk < n → sum_below n (λ d. num (λ y. y.desk == d) (x ∷ [])) ≡ 1
one_bag zero x lt = absurd (omega arith)
one_bag (suc n) x lt =
    let f = λ (d : ℕ). num (λ (y : Held). y.desk == d) (x ∷ []) in
    ⊎_elim
    (λ (e : x.desk ≡ n).
    let a : f n ≡ 1 = ap length (cond-true (x.desk == n) (x ∷ []) [] (eq-eqb x.desk n e)) in
    let others = λ (i : ℕ) (less : i < n).
    ap length (cond-false (x.desk == i) (x ∷ []) [] (ne_eqb x.desk i (λ no. omega arith))) in
    let b = sum_zero n f others in omega arith)
    (λ (ne : x.desk ≢ n).
    let a : f n ≡ 0 = ap length (cond-false (x.desk == n) (x ∷ []) [] (ne_eqb x.desk n ne)) in
    let b = one_bag n x (omega arith) in omega arith) (cases_eq x.desk n)

pub bags_all : (n : ℕ) (l : List Held) → ((x : Held) → Has x l → x.desk < n)
    → sum_below n (λ d. num (λ y. y.desk == d) l) ≡ length l
bags_all n [] lt = sum_zero n (λ d. 0) (λ i less. refl)
bags_all n (x ∷ xs) lt =
    let bags = λ (r : List Held) (d : ℕ). num (λ (y : Held). y.desk == d) r in
    let split = λ (d : ℕ). num_cons (λ (y : Held). y.desk == d) x xs in
    let a = sum_plus n (bags (x ∷ [])) (bags xs) (bags (x ∷ xs)) split in
    let b = one_bag n x (lt x (inl refl)) in let c = bags_all n xs (λ y h. lt y (inr h)) in omega arith
