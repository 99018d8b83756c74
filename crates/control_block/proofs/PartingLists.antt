-- Things that go from one list to another.
use Rattle.std.proofs.Common.{◌≡◌, ℕ, suc, ◌+◌, Bool, true, ◌≢◌, List, [], ◌∷◌, ◌++◌, map, length}
use Rattle.std.proofs.Common.{sym, refl, ap, ◌∙◌, subst, inl, inr, ⊎_elim, arith}
use Rattle.control_block.proofs.Prelude.{AreIn, cond-true, cond_both, handle_self, Has, has_before}
use Rattle.control_block.proofs.Prelude.{HasAll, NumberedHandle, part, part_mine, part_other}
use Rattle.control_block.proofs.Prelude.{passed, same_handle, same_handle_true, without}
use Rattle.control_block.proofs.Prelude.{without_all}
use Rattle.control_word.proofs.lists.Parts.{part_without}
use Rattle.control_block.proofs.partings.Parts.{part_without_mine}

-- the list without the things that are given, each taken out once
abbrev pub less_all : {A T : Type 0} → (A → A → Bool) → (T → A) → List T → List A → List A
less_all same was [] l = l
less_all same was (t ∷ ts) l = less_all same was ts (without same (was t) l)

pub has_map : {A B : Type 0} (f : A → B) (x : A) (l : List A) → Has x l → Has (f x) (map f l)
has_map f x [] h = h
has_map f x (y ∷ l) (inl e) = inl (ap f e)
has_map f x (y ∷ l) (inr h) = inr (has_map f x l h)

pub map_same : {A B : Type 0} (f g : A → B) (l : List A) → ((x : A) → Has x l → f x ≡ g x) → map f l ≡ map g l
map_same f g [] e = refl
map_same f g (x ∷ l) e = let a = e x (inl refl) in let b = map_same f g l (λ y h. e y (inr h)) in λ i. a i ∷ b i

pub map_itself : {A : Type 0} (f : A → A) (l : List A) → ((x : A) → Has x l → f x ≡ x) → map f l ≡ l
map_itself f [] e = refl
map_itself f (x ∷ l) e = let a = e x (inl refl) in let b = map_itself f l (λ y h. e y (inr h)) in λ i. a i ∷ b i

pub map_twice : {A B C : Type 0} (f : A → B) (g : B → C) (l : List A) → map g (map f l) ≡ map (λ x. g (f x)) l
map_twice f g [] = refl
map_twice f g (x ∷ l) = ap (λ r. g (f x) ∷ r) (map_twice f g l)

module _ {A : Type 0} (same : A → A → Bool) (truth : (x y : A) → same x y ≡ true → x ≡ y) (self : (x : A) → same x x ≡ true) where
  pub length_without : (x : A) (l : List A) → Has x l → suc (length (without same x l)) ≡ length l
  length_without x [] h = absurd h
  length_without x (y ∷ l) h =
      cond_both (same x y) l (y ∷ without same x l) (λ r. suc (length r) ≡ suc (length l)) (λ e. refl)
      (λ e. ap suc (length_without x l
      (⊎_elim (λ (q : x ≡ y). absurd (let t : same x y ≡ true = subst (λ z. same x z ≡ true) q (self x) in let u = sym t ∙ e in cc)) (λ t. t) h)))

  module _ {T : Type 0} (was : T → A) where
    -- what is to go is there
    pub all_has : (t : T) (ts : List T) (l : List A) → HasAll same was ts l → Has t ts → Has (was t) l
    all_has t [] l all h = absurd h
    all_has t (u ∷ ts) l all (inl e) = subst (λ z. Has z l) (ap was (sym e)) all.0
    all_has t (u ∷ ts) l all (inr h) = has_before same truth self (was t) (was u) l (all_has t ts (without same (was u) l) all.1 h)

    -- what is left was there
    pub less_has : (x : A) (ts : List T) (l : List A) → Has x (less_all same was ts l) → Has x l
    less_has x [] l h = h
    less_has x (t ∷ ts) l h = has_before same truth self x (was t) l (less_has x ts (without same (was t) l) h)

    pub length_less : (ts : List T) (l : List A) → HasAll same was ts l → length (less_all same was ts l) + length ts ≡ length l
    length_less [] l all = omega arith
    length_less (t ∷ ts) l all = let a = length_less ts (without same (was t) l) all.1 in let b = length_without (was t) l all.0 in omega arith

    -- the parts of two of whom one gives and the other gets
    module _ (is : T → A) (who : A → ℕ) where
      pub part_given : (d : ℕ) (ts : List T) (l : List A) → ((t : T) → who (was t) ≡ d) → ((t : T) → who (is t) ≢ d)
          → part who d (passed same was is ts l) ≡ less_all same was ts (part who d l)
      part_given d [] l mine not = refl
      part_given d (t ∷ ts) l mine not =
          part_other who d (is t) (passed same was is ts (without same (was t) l)) (not t)
          ∙ (part_given d ts (without same (was t) l) mine not
          ∙ ap (less_all same was ts) (part_without_mine who d same truth (was t) l (mine t)))

      pub part_got : (d : ℕ) (ts : List T) (l : List A) → ((t : T) → who (was t) ≢ d) → ((t : T) → who (is t) ≡ d)
          → part who d (passed same was is ts l) ≡ map is ts ++ part who d l
      part_got d [] l not mine = refl
      part_got d (t ∷ ts) l not mine =
          part_mine who d (is t) (passed same was is ts (without same (was t) l)) (mine t)
          ∙ ap (λ r. is t ∷ r) (part_got d ts (without same (was t) l) not mine
          ∙ ap (λ r. map is ts ++ r) (part_without who d same truth (was t) l (not t)))

  pub all_map : {T U : Type 0} (f : U → T) (was : T → A) (us : List U) (l : List A) → HasAll same (λ u. was (f u)) us l → HasAll same was (map f us) l
  all_map f was [] l h = tt
  all_map f was (u ∷ us) l h = (h.0, all_map f was us (without same (was (f u)) l) h.1)

  pub less_map : {T U : Type 0} (f : U → T) (was : T → A) (us : List U) (l : List A)
      → less_all same was (map f us) l ≡ less_all same (λ u. was (f u)) us l
  less_map f was [] l = refl
  less_map f was (u ∷ us) l = less_map f was us (without same (was (f u)) l)

-- The things of a list are seen by f as handles, and g tells of which thing a handle is
module _ {A : Type 0} (same : A → A → Bool) (truth : (x y : A) → same x y ≡ true → x ≡ y) (self : (x : A) → same x x ≡ true)
    (f : A → NumberedHandle) (g : NumberedHandle → A) where
  abbrev pub Tells : List A → Type 0
  Tells l = (x : A) → Has x l → g (f x) ≡ x

  pub has_back : (h : NumberedHandle) (l : List A) → Tells l → Has h (map f l) → Has (g h) l × (f (g h) ≡ h)
  has_back h [] tells at = absurd at
  has_back h (x ∷ l) tells (inl e) = let is = ap g e ∙ tells x (inl refl) in (inl is, ap f is ∙ sym e)
  has_back h (x ∷ l) tells (inr at) = let t = has_back h l (λ y a. tells y (inr a)) at in (inr t.0, t.1)

  map_without : (h : NumberedHandle) (l : List A) → Tells l → f (g h) ≡ h → map f (without same (g h) l) ≡ without same_handle h (map f l)
  map_without h [] tells is = refl
  map_without h (x ∷ l) tells is =
      cond_both (same (g h) x) l (x ∷ without same (g h) l) (λ r. map f r ≡ without same_handle h (f x ∷ map f l))
      (λ e.
      let q : h ≡ f x = sym is ∙ ap f (truth (g h) x e) in
      sym (cond-true (same_handle h (f x)) (map f l) (f x ∷ without same_handle h (map f l)) (subst (λ z. same_handle h z ≡ true) q (handle_self h))))
      (λ e.
      cond_both (same_handle h (f x)) (map f l) (f x ∷ without same_handle h (map f l)) (λ r. f x ∷ map f (without same (g h) l) ≡ r)
      (λ s. absurd (let q : g h ≡ x = ap g (same_handle_true h (f x) s) ∙ tells x (inl refl) in
      let t : same (g h) x ≡ true = subst (λ z. same (g h) z ≡ true) q (self (g h)) in let u = sym t ∙ e in cc))
      (λ s. ap (λ r. f x ∷ r) (map_without h l (λ y a. tells y (inr a)) is)))

  pub all_back : (hs : List NumberedHandle) (l : List A) → Tells l → AreIn hs (map f l)
      → HasAll same g hs l × (map f (less_all same g hs l) ≡ without_all hs (map f l))
  all_back [] l tells all = (tt, refl)
  all_back (h ∷ hs) l tells all =
      let b = has_back h l tells all.0 in let m = map_without h l tells b.1 in
      let rest = all_back hs (without same (g h) l) (λ x a. tells x (has_before same truth self x (g h) l a)) (subst (AreIn hs) (sym m) all.1) in
      ((b.0, rest.0), rest.1 ∙ ap (without_all hs) m)

  -- each handle is seen as itself
  pub each_back : (h : NumberedHandle) (hs : List NumberedHandle) (l : List A) → Tells l → AreIn hs (map f l) → Has h hs → Has (g h) l × (f (g h) ≡ h)
  each_back h hs l tells all at =
      has_back h l tells (all_has same_handle same_handle_true handle_self (λ (x : NumberedHandle). x) h hs (map f l) all at)
