-- What a desk has of a list is had of its own part of it.
use Rattle.std.proofs.Common.{◌≡◌, ℕ, Bool, true, List, [], ◌∷◌, ◌==◌, sym, refl, ap, ◌∙◌, subst}
use Rattle.std.proofs.Common.{eqb-true}
use Rattle.control_block.proofs.Prelude.{cond-false, cond-true, cond_both, has_part, HasAll, part}
use Rattle.control_block.proofs.Prelude.{part_has, part_mine, without}

module _ {A : Type 0} (who : A → ℕ) (d : ℕ) (same : A → A → Bool) (truth : (x y : A) → same x y ≡ true → x ≡ y) where
  pub part_without_mine : (x : A) (l : List A) → who x ≡ d → part who d (without same x l) ≡ without same x (part who d l)
  part_without_mine x [] e = refl
  part_without_mine x (y ∷ l) e =
      cond_both (same x y) l (y ∷ without same x l) (λ r. part who d r ≡ without same x (part who d (y ∷ l)))
      (λ s. let is = truth x y s in
      sym (ap (without same x) (part_mine who d y l (ap who (sym is) ∙ e)) ∙ cond-true (same x y) (part who d l) (y ∷ without same x (part who d l)) s))
      (λ s. cond_both (who y == d) (y ∷ part who d l) (part who d l) (λ r. part who d (y ∷ without same x l) ≡ without same x r)
      (λ q. part_mine who d y (without same x l) (eqb-true (who y) d q)
      ∙ (ap (λ r. y ∷ r) (part_without_mine x l e) ∙ sym (cond-false (same x y) (part who d l) (y ∷ without same x (part who d l)) s)))
      (λ q. cond-false (who y == d) (y ∷ part who d (without same x l)) (part who d (without same x l)) q ∙ part_without_mine x l e))

  pub all_to : {T : Type 0} (was : T → A) (ts : List T) (l : List A) → ((t : T) → who (was t) ≡ d) → HasAll same was ts l
      → HasAll same was ts (part who d l)
  all_to was [] l e h = tt
  all_to was (t ∷ ts) l e h =
      (has_part who d (was t) l (e t) h.0, subst (HasAll same was ts) (part_without_mine (was t) l (e t)) (all_to was ts (without same (was t) l) e h.1))

  pub all_from : {T : Type 0} (was : T → A) (ts : List T) (l : List A) → ((t : T) → who (was t) ≡ d) → HasAll same was ts (part who d l)
      → HasAll same was ts l
  all_from was [] l e h = tt
  all_from was (t ∷ ts) l e h =
      ((part_has who d (was t) l h.0).0, all_from was ts (without same (was t) l) e (subst (HasAll same was ts) (sym (part_without_mine (was t) l (e t))) h.1))
