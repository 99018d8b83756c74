-- Lists of jobs that are started from the last one on, and come back from the first one on.
use Rattle.std.proofs.Common.{◌≡◌, Bool, false, true, List, [], ◌∷◌, ◌++◌, reverse, length, suc, ap, sym, ◌∙◌, subst, refl}
use Rattle.std.specs.List.{AllZip}
use Rattle.thread_jobs.specs.Jobs.{Keeps}
use Rattle.std.proofs.lemmas.List.{append-nil, append_assoc, length-reverse, reverse-append, reverse-reverse}

module _ {X Y : Type 0} (R : X → Y → Type 0) where
  zip_more : (xs : List X) (ys : List Y) (x : X) (y : Y) → AllZip R xs ys → R x y → AllZip R (xs ++ x ∷ []) (ys ++ y ∷ [])
  zip_more [] [] x y h r = (r, tt)
  zip_more [] (b ∷ ys) x y h r = absurd h
  zip_more (a ∷ xs) [] x y h r = absurd h
  zip_more (a ∷ xs) (b ∷ ys) x y h r = (h.0, zip_more xs ys x y h.1 r)

  zip_last : (xs : List X) (ys : List Y) (y : Y) → AllZip R xs (ys ++ y ∷ [])
      → (rest : List X) × (x : X) × (xs ≡ rest ++ x ∷ []) × AllZip R rest ys × R x y
  zip_last [] [] y h = absurd h
  zip_last [] (z ∷ ys) y h = absurd h
  zip_last (x ∷ []) [] y h = ([], x, refl, tt, h.0)
  zip_last (x ∷ w ∷ xs) [] y h = absurd h.1
  zip_last (x ∷ xs) (z ∷ ys) y h =
      let r = zip_last xs ys y h.1 in (x ∷ r.0, r.1, ap (λ l. x ∷ l) r.2, (h.0, r.3), r.4)

  -- one more is started
  pub started_more : (init now rest : List X) (s t : List Y) (x : X) (y : Y)
      → ((went : List X) × (init ≡ now ++ reverse went) × AllZip R went s) → now ≡ rest ++ x ∷ [] → t ≡ s ++ y ∷ [] → R x y
      → (went : List X) × (init ≡ rest ++ reverse went) × AllZip R went t
  started_more init now rest s t x y h last more r = (
    h.0 ++ x ∷ [],
    h.1
        ∙ (ap (λ l. l ++ reverse h.0) last
        ∙ (append_assoc rest (x ∷ []) (reverse h.0) ∙ ap (λ l. rest ++ l) (sym (reverse-append h.0 (x ∷ []))))),
    subst (λ l. AllZip R (h.0 ++ x ∷ []) l) (sym more) (zip_more h.0 s x y h.2 r),
  )

  -- all are
  pub all_started : (init now : List X) (s : List Y) → ((went : List X) × (init ≡ now ++ reverse went) × AllZip R went s) → now ≡ []
      → (went : List X) × (init ≡ reverse went) × AllZip R went s
  all_started init now s h none = (h.0, h.1 ∙ ap (λ l. l ++ reverse h.0) none, h.2)

module _ {X Y : Type 0} (R : X → Y → Type 0) (K : X → X → Type 0) where
  -- of what was started some is left, and some has come back
  abbrev pub AreBack : List X → List Y → List X → Type 0
  AreBack went s back = (rest : List X) × (gone : List X) × (went ≡ rest ++ reverse gone) × AllZip R rest s × AllZip K gone back

  -- one more comes back
  pub back_more : (went : List X) (s t : List Y) (y : Y) (back more : List X) (k : X) → AreBack went s back → s ≡ t ++ y ∷ []
      → more ≡ back ++ k ∷ [] → ((x : X) → R x y → K x k) → AreBack went t more
  back_more went s t y back more k h last is keeps =
      let r = zip_last R h.0 t y (subst (λ l. AllZip R h.0 l) last h.3) in (
        r.0,
        h.1 ++ r.1 ∷ [],
        h.2
            ∙ (ap (λ l. l ++ reverse h.1) r.2
            ∙ (append_assoc r.0 (r.1 ∷ []) (reverse h.1) ∙ ap (λ l. r.0 ++ l) (sym (reverse-append h.1 (r.1 ∷ []))))),
        r.3,
        subst (λ l. AllZip K (h.1 ++ r.1 ∷ []) l) (sym is) (zip_more K h.1 back r.1 k h.4 (keeps r.1 r.4)),
      )

  -- the last of what is left is one that was started
  pub last_started : (went : List X) (s t : List Y) (y : Y) (back : List X) → AreBack went s back → s ≡ t ++ y ∷ [] → (x : X) × R x y
  last_started went s t y back h last = let r = zip_last R h.0 t y (subst (λ l. AllZip R h.0 l) last h.3) in (r.1, r.4)

  none_left : (xs : List X) → AllZip R xs [] → xs ≡ []
  none_left [] h = refl
  none_left (x ∷ xs) h = absurd h

  -- all are back
  pub all_back : (went : List X) (s : List Y) (back : List X) → AreBack went s back → s ≡ [] → AllZip K (reverse went) back
  all_back went s back h none =
      let left = none_left h.0 (subst (λ l. AllZip R h.0 l) none h.3) in
      subst (λ l. AllZip K l back)
      (sym (ap reverse (h.2 ∙ ap (λ l. l ++ reverse h.1) left) ∙ reverse-reverse h.1)) h.4

module _ {X Y : Type 0} (R : X → Y → Type 0) where
  -- none is started yet
  pub begun : (init : List X) (s : List Y) → s ≡ [] → (went : List X) × (init ≡ init ++ reverse went) × AllZip R went s
  begun init s none = ([], sym (append-nil init), subst (λ l. AllZip R [] l) (sym none) tt)

module _ {X Y : Type 0} (R : X → Y → Type 0) (K : X → X → Type 0) where
  -- none is back yet
  pub none_back : (went : List X) (s : List Y) (back : List X) → back ≡ [] → AllZip R went s → AreBack R K went s back
  none_back went s back none zip = (went, [], sym (append-nil went), zip, subst (λ l. AllZip K [] l) (sym none) tt)

module _ {X Y : Type 0} (R : X → Y → Type 0) where
  length_zip : (xs : List X) (ys : List Y) → AllZip R xs ys → length xs ≡ length ys
  length_zip [] [] h = refl
  length_zip [] (y ∷ ys) h = absurd h
  length_zip (x ∷ xs) [] h = absurd h
  length_zip (x ∷ xs) (y ∷ ys) h = ap suc (length_zip xs ys h.1)

  -- as many as there were
  pub as_many : (init : List X) (s : List Y) → ((went : List X) × (init ≡ reverse went) × AllZip R went s) → length s ≡ length init
  as_many init s h = sym (length_zip h.0 s h.2) ∙ (sym (length-reverse h.0) ∙ ap length (sym h.1))

-- none ran
pub all_same : {X : Type 0} (does : X → X → Type 0) (xs : List X) → AllZip (Keeps does false) xs xs
all_same does [] = tt
all_same does (x ∷ xs) = ((λ no. absurd (cc no), λ _. refl), all_same does xs)

module _ {X : Type 0} (does : X → X → Type 0) where
  -- all ran
  pub all_ran : (all : Bool) (xs ys : List X) → all ≡ true → AllZip (Keeps does all) xs ys → AllZip does xs ys
  all_ran all [] [] e h = tt
  all_ran all [] (y ∷ ys) e h = absurd h
  all_ran all (x ∷ xs) [] e h = absurd h
  all_ran all (x ∷ xs) (y ∷ ys) e h = (h.0.0 e, all_ran all xs ys e h.1)

  -- or all are what they were
  pub none_ran : (all : Bool) (xs ys : List X) → all ≡ false → AllZip (Keeps does all) xs ys → ys ≡ xs
  none_ran all [] [] e h = refl
  none_ran all [] (y ∷ ys) e h = absurd h
  none_ran all (x ∷ xs) [] e h = absurd h
  none_ran all (x ∷ xs) (y ∷ ys) e h = ap (λ k. k ∷ ys) (h.0.1 e) ∙ ap (λ l. x ∷ l) (none_ran all xs ys e h.1)
