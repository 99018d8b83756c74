-- The part of a list that is one desk's, and what changes of others' parts leave of it.
use Rattle.std.proofs.Common.{◌≡◌, ℕ, Bool, true, ◌≢◌, List, [], ◌∷◌, map, ◌==◌, sym, refl, ap}
use Rattle.std.proofs.Common.{◌∙◌, inl, inr, ⊎_elim, eq-eqb, ne_eqb, eqb-true}
use Rattle.control_word.proofs.Prelude.{cases_eq, cond-false, cond-true, cond_both, filter, Has}
use Rattle.control_word.proofs.Prelude.{passed, without}

module _ {A : Type 0} (who : A → ℕ) (d : ℕ) where
  -- the part of a list that is d's
  abbrev pub part : List A → List A
  part l = filter (λ x. who x == d) l

  pub part_mine : (x : A) (l : List A) → who x ≡ d → part (x ∷ l) ≡ x ∷ part l
  part_mine x l e = cond-true _ (x ∷ part l) (part l) (eq-eqb (who x) d e)

  pub part_other : (x : A) (l : List A) → who x ≢ d → part (x ∷ l) ≡ part l
  part_other x l n = cond-false _ (x ∷ part l) (part l) (ne_eqb (who x) d n)

  pub has_part : (x : A) (l : List A) → who x ≡ d → Has x l → Has x (part l)
  has_part x [] e h = absurd h
  has_part x (y ∷ l) e h =
      cond_both (who y == d) (y ∷ part l) (part l) (λ r. Has x r)
      (λ t. ⊎_elim inl (λ u. inr (has_part x l e u)) h)
      (λ t. ⊎_elim (λ u. absurd (let q : who y ≡ d = ap who (sym u) ∙ e in let r = eq-eqb (who y) d q in cc)) (λ u. has_part x l e u) h)

  pub part_has : (x : A) (l : List A) → Has x (part l) → Has x l × (who x ≡ d)
  part_has x [] h = absurd h
  part_has x (y ∷ l) h =
      cond_both (who y == d) (y ∷ part l) (part l) (λ r. Has x r → Has x (y ∷ l) × (who x ≡ d))
      (λ t u. ⊎_elim (λ e. (inl e, ap who e ∙ eqb-true (who y) d t)) (λ r. let q = part_has x l r in (inr q.0, q.1)) u)
      (λ t u. let q = part_has x l u in (inr q.0, q.1)) h

  module _ (same : A → A → Bool) (truth : (x y : A) → same x y ≡ true → x ≡ y) where
    pub part_without : (x : A) (l : List A) → who x ≢ d → part (without same x l) ≡ part l
    part_without x [] n = refl
    part_without x (y ∷ l) n =
        cond_both (same x y) l (y ∷ without same x l) (λ r. part r ≡ part (y ∷ l))
        (λ e. sym (part_other y l (λ q. n (ap who (truth x y e) ∙ q))))
        (λ e. cond_both (who y == d) (y ∷ part l) (part l) (λ r. part (y ∷ without same x l) ≡ r)
        (λ q. part_mine y (without same x l) (eqb-true (who y) d q) ∙ ap (λ r. y ∷ r) (part_without x l n))
        (λ q. cond-false _ (y ∷ part (without same x l)) (part (without same x l)) q ∙ part_without x l n))

    pub part_passed : {T : Type 0} (was is : T → A) (ts : List T) (l : List A) → ((t : T) → who (was t) ≢ d) → ((t : T) → who (is t) ≢ d)
        → part (passed same was is ts l) ≡ part l
    part_passed was is [] l n m = refl
    part_passed was is (t ∷ ts) l n m =
        part_other (is t) (passed same was is ts (without same (was t) l)) (m t)
        ∙ (part_passed was is ts (without same (was t) l) n m ∙ part_without (was t) l (n t))

  pub part_map : (f : A → A) (l : List A) → ((x : A) → who x ≡ d → f x ≡ x) → ((x : A) → who x ≢ d → who (f x) ≢ d)
      → part (map f l) ≡ part l
  part_map f [] mine other = refl
  part_map f (x ∷ l) mine other =
      ⊎_elim
      (λ (e : who x ≡ d).
      let fx = mine x e in
      part_mine (f x) (map f l) (ap who fx ∙ e) ∙ ((λ i. fx i ∷ part_map f l mine other i) ∙ sym (part_mine x l e)))
      (λ (n : who x ≢ d). part_other (f x) (map f l) (other x n) ∙ (part_map f l mine other ∙ sym (part_other x l n)))
      (cases_eq (who x) d)
