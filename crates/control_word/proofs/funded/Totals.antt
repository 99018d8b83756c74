-- Sums over the handles in hand, when one comes or goes, or passes to another desk.
use Rattle.std.proofs.Common.{◌≡◌, ℕ, zero, suc, ◌+◌, ◌*◌, List, [], ◌∷◌, ◌++◌, map, sym, refl, ap, ◌∙◌, subst, inl, inr}
use Rattle.std.proofs.Common.{⊎_elim, arith}
use Rattle.control_word.proofs.Prelude.{cond_both, Has, HasAll, Held, held, NumberedHandle}
use Rattle.control_word.proofs.Prelude.{passed, same_held, total, without}
use Rattle.control_word.proofs.lists.Tallies.{differs, held_self, held_true}

pub total_times : {A : Type 0} (n : ℕ) (f g : A → ℕ) (l : List A) → ((a : A) → f a ≡ n * g a) → total f l ≡ n * total g l
total_times n f g [] e = omega arith
total_times n f g (x ∷ xs) e = let a = e x in let b = total_times n f g xs e in omega arith

pub total_append : {A : Type 0} (f : A → ℕ) (xs ys : List A) → total f (xs ++ ys) ≡ total f xs + total f ys
total_append f [] ys = omega arith
total_append f (x ∷ xs) ys = let t = total_append f xs ys in omega arith

pub total_without : (f : Held → ℕ) (x : Held) (l : List Held) → Has x l → total f l ≡ f x + total f (without same_held x l)
total_without f x [] h = absurd h
total_without f x (y ∷ ys) h =
    cond_both (same_held x y) ys (y ∷ without same_held x ys) (λ l. total f (y ∷ ys) ≡ f x + total f l)
    (λ e. ap (λ u. f u + total f ys) (sym (held_true x y e)))
    (λ e.
    let there : Has x ys = ⊎_elim (λ s. absurd (differs same_held held_true held_self x y e s)) (λ u. u) h in
    let t = total_without f x ys there in omega arith)

-- what doesn't depend on the desk
pub total_passed : (f : Held → ℕ) → ((d e : ℕ) (h : NumberedHandle) → f (held d h) ≡ f (held e h)) → (d to : ℕ) (hs : List NumberedHandle) (l : List Held)
    → HasAll same_held (λ h. held d h) hs l
    → total f (passed same_held (λ h. held d h) (λ h. held to h) hs l) ≡ total f l
total_passed f same d to [] l has = refl
total_passed f same d to (h ∷ hs) l has =
    let a = total_without f (held d h) l has.0 in
    let b = total_passed f same d to hs (without same_held (held d h) l) has.1 in
    let c = same d to h in omega arith

pub total_renamed : (f : Held → ℕ) → ((d e : ℕ) (h : NumberedHandle) → f (held d h) ≡ f (held e h)) → (g : ℕ → ℕ) (l : List Held)
    → total f (map (λ (x : Held). held (g x.desk) x.handle) l) ≡ total f l
total_renamed f same g [] = refl
total_renamed f same g (x ∷ xs) = let a = same (g x.desk) x.desk x.handle in let b = total_renamed f same g xs in omega arith
