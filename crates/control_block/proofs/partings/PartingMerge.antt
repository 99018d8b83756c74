-- Lists in which one name takes over another's things.
use Rattle.std.proofs.Common.{◌≡◌, ℕ, ◌+◌, Bool, true, cond, ◌&&◌, ◌≢◌, List, [], ◌∷◌, ◌++◌, map}
use Rattle.std.proofs.Common.{length, ◌==◌, sym, refl, ap, ◌∙◌, subst, ⊎_elim, arith, eq-eqb}
use Rattle.std.proofs.Common.{ne_eqb}
use Rattle.control_block.proofs.Prelude.{cases_eq, cond-false, cond-true, cond_both, filter}
use Rattle.control_block.proofs.Prelude.{IsPermutation, num, num_cons, part, part_mine, part_other}
use Rattle.control_block.proofs.Prelude.{renamed, same_stored, Stored, stored}
use Rattle.std.proofs.lemmas.List.Sorted.{IsPermutation-cons, IsPermutation-middle}
use Rattle.std.proofs.lemmas.List.Sorted.{IsPermutation-refl, IsPermutation-trans}

pub filter_map : {A B : Type 0} (p : B → Bool) (f : A → B) (l : List A) → filter p (map f l) ≡ map f (filter (λ x. p (f x)) l)
filter_map p f [] = refl
filter_map p f (x ∷ l) =
    let t = filter_map p f l in let rest = filter (λ y. p (f y)) l in
    cond_both (p (f x)) (x ∷ rest) rest (λ r. filter p (f x ∷ map f l) ≡ map f r)
    (λ e. cond-true (p (f x)) (f x ∷ filter p (map f l)) (filter p (map f l)) e ∙ ap (λ r. f x ∷ r) t)
    (λ e. cond-false (p (f x)) (f x ∷ filter p (map f l)) (filter p (map f l)) e ∙ t)

module _ (other d : ℕ) (apart : other ≢ d) where
  -- the name that takes over keeps its own, and gets the other's
  renamed_own : (x : ℕ) → x ≡ d → renamed other d x ≡ d
  renamed_own x e = cond-false (x == other) d x (ne_eqb x other (λ q. apart (sym q ∙ e))) ∙ e

  renamed_got : (x : ℕ) → x ≡ other → renamed other d x ≡ d
  renamed_got x e = cond-true (x == other) d x (eq-eqb x other e)

  renamed_else : (x : ℕ) → x ≢ other → renamed other d x ≡ x
  renamed_else x n = cond-false (x == other) d x (ne_eqb x other n)

  module _ {A : Type 0} (who : A → ℕ) where
    abbrev pub is_either : A → Bool
    is_either x = renamed other d (who x) == d

    -- what is either's is the things of the two
    pub both_parts : (l : List A) → IsPermutation (part who d l ++ part who other l) (filter is_either l)
    both_parts [] = IsPermutation-refl []
    both_parts (x ∷ l) =
        let t = both_parts l in let rest = filter is_either l in let mine = part who d l in let others = part who other l in
        ⊎_elim
        (λ (e : who x ≡ d).
        let p : part who d (x ∷ l) ≡ x ∷ mine = part_mine who d x l e in
        let q : part who other (x ∷ l) ≡ others = part_other who other x l (λ z. apart (sym z ∙ e)) in
        let r : filter is_either (x ∷ l) ≡ x ∷ rest =
        cond-true (is_either x) (x ∷ rest) rest (eq-eqb (renamed other d (who x)) d (renamed_own (who x) e)) in
        subst (λ (y : List A × List A). IsPermutation y.0 y.1) (λ i. (sym p i ++ sym q i, sym r i)) (IsPermutation-cons x (mine ++ others) rest t))
        (λ (n : who x ≢ d).
        ⊎_elim
        (λ (e : who x ≡ other).
        let p : part who d (x ∷ l) ≡ mine = part_other who d x l n in
        let q : part who other (x ∷ l) ≡ x ∷ others = part_mine who other x l e in
        let r : filter is_either (x ∷ l) ≡ x ∷ rest =
        cond-true (is_either x) (x ∷ rest) rest (eq-eqb (renamed other d (who x)) d (renamed_got (who x) e)) in
        subst (λ (y : List A × List A). IsPermutation y.0 y.1) (λ i. (sym p i ++ sym q i, sym r i))
        (IsPermutation-trans (mine ++ x ∷ others) (x ∷ (mine ++ others)) (x ∷ rest) (IsPermutation-middle mine x others)
        (IsPermutation-cons x (mine ++ others) rest t)))
        (λ (m : who x ≢ other).
        let p : part who d (x ∷ l) ≡ mine = part_other who d x l n in
        let q : part who other (x ∷ l) ≡ others = part_other who other x l m in
        let r : filter is_either (x ∷ l) ≡ rest =
        cond-false (is_either x) (x ∷ rest) rest (ne_eqb (renamed other d (who x)) d (λ z. n (sym (renamed_else (who x) m) ∙ z))) in
        subst (λ (y : List A × List A). IsPermutation y.0 y.1) (λ i. (sym p i ++ sym q i, sym r i)) t)
        (cases_eq (who x) other)) (cases_eq (who x) d)

  one : {A : Type 0} (p : A → Bool) (x : A) → num p (x ∷ []) ≡ cond (p x) 1 0
  one p x = cond_both (p x) (x ∷ []) [] (λ r. length r ≡ cond (p x) 1 0) (λ e. sym (cond-true (p x) 1 0 e)) (λ e. sym (cond-false (p x) 1 0 e))

  -- and each block of either's store is the one's
  pub tallies_join : (b : ℕ) (l : List Stored)
      → num (same_stored (stored d b)) (map (λ (x : Stored). stored (renamed other d x.desk) x.block) l)
      ≡ num (same_stored (stored d b)) l + num (same_stored (stored other b)) l
  tallies_join b [] = refl
  tallies_join b (x ∷ l) =
      let f = λ (y : Stored). stored (renamed other d y.desk) y.block in
      let t = tallies_join b l in let now = num_cons (same_stored (stored d b)) (f x) (map f l) in
      let mine = num_cons (same_stored (stored d b)) x l in let others = num_cons (same_stored (stored other b)) x l in
      let a : num (same_stored (stored d b)) (f x ∷ []) ≡ cond (d == renamed other d x.desk && (b == x.block)) 1 0 =
      one (same_stored (stored d b)) (f x) in
      let p : num (same_stored (stored d b)) (x ∷ []) ≡ cond (d == x.desk && (b == x.block)) 1 0 = one (same_stored (stored d b)) x in
      let q : num (same_stored (stored other b)) (x ∷ []) ≡ cond (other == x.desk && (b == x.block)) 1 0 = one (same_stored (stored other b)) x in
      ⊎_elim
      (λ (e : x.desk ≡ d).
      let a' : ◌≡◌ {A = ℕ} (cond (d == renamed other d x.desk && (b == x.block)) 1 0) (cond (true && (b == x.block)) 1 0) =
      ap (λ c. cond (c && (b == x.block)) 1 0) (eq-eqb d (renamed other d x.desk) (sym (renamed_own x.desk e))) in
      let p' : ◌≡◌ {A = ℕ} (cond (d == x.desk && (b == x.block)) 1 0) (cond (true && (b == x.block)) 1 0) =
      ap (λ c. cond (c && (b == x.block)) 1 0) (eq-eqb d x.desk (sym e)) in
      let q' : ◌≡◌ {A = ℕ} (cond (other == x.desk && (b == x.block)) 1 0) 0 =
      ap (λ c. cond (c && (b == x.block)) 1 0) (ne_eqb other x.desk (λ z. apart (z ∙ e))) in omega arith)
      (λ (n : x.desk ≢ d).
      let p' : ◌≡◌ {A = ℕ} (cond (d == x.desk && (b == x.block)) 1 0) 0 =
      ap (λ c. cond (c && (b == x.block)) 1 0) (ne_eqb d x.desk (λ z. n (sym z))) in
      ⊎_elim
      (λ (e : x.desk ≡ other).
      let a' : ◌≡◌ {A = ℕ} (cond (d == renamed other d x.desk && (b == x.block)) 1 0) (cond (true && (b == x.block)) 1 0) =
      ap (λ c. cond (c && (b == x.block)) 1 0) (eq-eqb d (renamed other d x.desk) (sym (renamed_got x.desk e))) in
      let q' : ◌≡◌ {A = ℕ} (cond (other == x.desk && (b == x.block)) 1 0) (cond (true && (b == x.block)) 1 0) =
      ap (λ c. cond (c && (b == x.block)) 1 0) (eq-eqb other x.desk (sym e)) in omega arith)
      (λ (m : x.desk ≢ other).
      let a' : ◌≡◌ {A = ℕ} (cond (d == renamed other d x.desk && (b == x.block)) 1 0) 0 =
      ap (λ c. cond (c && (b == x.block)) 1 0) (ne_eqb d (renamed other d x.desk) (λ z. n (sym (z ∙ renamed_else x.desk m)))) in
      let q' : ◌≡◌ {A = ℕ} (cond (other == x.desk && (b == x.block)) 1 0) 0 =
      ap (λ c. cond (c && (b == x.block)) 1 0) (ne_eqb other x.desk (λ z. m (sym z))) in omega arith) (cases_eq x.desk other)) (cases_eq x.desk d)
