-- One tree after another.
use Rattle.std.proofs.Common.{◌≡◌, ℕ, ◌+◌, ◌<◌, List, [], ◌∷◌, ◌++◌, length, get_or, take, refl, sym, ◌∙◌, ap, subst, append_assoc}
use Rattle.std.proofs.lemmas.Grind.{flat_map-append}
use Rattle.std.proofs.lemmas.List.{append-nil, take_more}
use Rattle.std.proofs.lemmas.List.Concat.{flat_map-cons}
use Rattle.std.specs.List.{flat_map}
use Rattle.run_picture.specs.declared.element.Attribute.{Attribute}
use Rattle.run_picture.specs.ElementTexts.{closing, escaped, opening}
use Rattle.run_picture.specs.Elements.{Draws, Markup, Shows, nothing, bytes, element, followed, label, rendered, shape, words}

pub rendered-followed : (m n : Markup) → rendered (followed m n) ≡ rendered m ++ rendered n
rendered-followed nothing n = refl
rendered-followed (bytes shown rest) n =
    ap (λ (t : List ℕ). flat_map escaped shown ++ t) (rendered-followed rest n)
    ∙ sym (append_assoc (flat_map escaped shown) (rendered rest) (rendered n))
rendered-followed (element name attributes inner rest) n =
    ap (λ (t : List ℕ). opening name attributes ++ (rendered inner ++ (closing name ++ t))) (rendered-followed rest n)
    ∙ ap (λ (t : List ℕ). opening name attributes ++ (rendered inner ++ t)) (sym (append_assoc (closing name) (rendered rest) (rendered n)))
    ∙ ap (λ (t : List ℕ). opening name attributes ++ t) (sym (append_assoc (rendered inner) (closing name ++ rendered rest) (rendered n)))
    ∙ sym (append_assoc (opening name attributes) (rendered inner ++ (closing name ++ rendered rest)) (rendered n))

pub words-followed : (m n : Markup) → words (followed m n) ≡ words m ++ words n
words-followed nothing n = refl
words-followed (bytes shown rest) n = ap (λ (t : List (List ℕ)). shown ∷ t) (words-followed rest n)
words-followed (element name attributes inner rest) n =
    ap (λ (t : List (List ℕ)). words inner ++ t) (words-followed rest n)
    ∙ sym (append_assoc (words inner) (words rest) (words n))

flat_map-one : {A B : Type 0} (f : A → List B) (x : A) → flat_map f (x ∷ []) ≡ f x
flat_map-one f x = flat_map-cons f x [] ∙ append-nil (f x)

pub shows_none : (a : List ℕ) → Shows a a []
shows_none a = record { tree = nothing; says = sym (append-nil a); reads = refl }

-- one after the other
pub shows_then : (a b c : List ℕ) (xs ys : List (List ℕ)) → Shows a b xs → Shows b c ys → Shows a c (xs ++ ys)
shows_then a b c xs ys p q =
    record {
      tree = followed p.tree q.tree;
      says =
          q.says ∙ ap (λ (t : List ℕ). t ++ rendered q.tree) p.says ∙ append_assoc a (rendered p.tree) (rendered q.tree)
          ∙ ap (λ (t : List ℕ). a ++ t) (sym (rendered-followed p.tree q.tree));
      reads =
          words-followed p.tree q.tree ∙ ap (λ (t : List (List ℕ)). t ++ words q.tree) p.reads
          ∙ ap (λ (t : List (List ℕ)). xs ++ t) q.reads;
    }

-- a text, and then three parts
three_parts : (a b c d x y z : List ℕ) → b ≡ a ++ x → c ≡ b ++ y → d ≡ c ++ z → d ≡ a ++ (x ++ (y ++ (z ++ [])))
three_parts a b c d x y z p q r =
    r
    ∙ ap (λ (t : List ℕ). t ++ z) (q ∙ ap (λ (t : List ℕ). t ++ y) p ∙ append_assoc a x y)
    ∙ append_assoc a (x ++ y) z
    ∙ ap (λ (t : List ℕ). a ++ t) (append_assoc x y z)
    ∙ ap (λ (t : List ℕ). a ++ (x ++ (y ++ t))) (sym (append-nil z))

-- a shape shows nothing, a label its words, and a group what is in it
pub shows_shape : (a b c name : List ℕ) (attributes : List Attribute) → b ≡ a ++ opening name attributes → c ≡ b ++ closing name → Shows a c []
shows_shape a b c name attributes p q =
    record {
      tree = shape name attributes;
      says = three_parts a b b c (opening name attributes) [] (closing name) p (sym (append-nil b)) q;
      reads = refl;
    }

pub shows_label : (a b c d name : List ℕ) (attributes : List Attribute) (shown : List ℕ) → b ≡ a ++ opening name attributes
    → c ≡ b ++ flat_map escaped shown → d ≡ c ++ closing name → Shows a d (shown ∷ [])
shows_label a b c d name attributes shown p q r =
    record {
      tree = label name attributes shown;
      says =
          three_parts a b c d (opening name attributes) (flat_map escaped shown) (closing name) p q r
          ∙ ap (λ (t : List ℕ). a ++ (opening name attributes ++ (t ++ (closing name ++ [])))) (sym (append-nil (flat_map escaped shown)));
      reads = refl;
    }

pub shows_group : (a b c d name inner : List ℕ) (attributes : List Attribute) (shown : List (List ℕ)) → b ≡ a ++ opening name attributes
    → c ≡ b ++ inner → d ≡ c ++ closing name → Shows [] inner shown → Shows a d shown
shows_group a b c d name inner attributes shown p q r within =
    record {
      tree = element name attributes within.tree nothing;
      says =
          three_parts a b c d (opening name attributes) inner (closing name) p q r
          ∙ ap (λ (t : List ℕ). a ++ (opening name attributes ++ (t ++ (closing name ++ [])))) within.says;
      reads = append-nil (words within.tree) ∙ within.reads;
    }

-- some words
pub draws_of : (a b : List ℕ) (xs : List (List ℕ)) → Shows a b xs → Draws a b
draws_of a b xs p = record { shown = xs; shows = p }

pub draws_none : (a : List ℕ) → Draws a a
draws_none a = draws_of a a [] (shows_none a)

pub draws_then : (a b c : List ℕ) → Draws a b → Draws b c → Draws a c
draws_then a b c p q = draws_of a c (p.shown ++ q.shown) (shows_then a b c p.shown q.shown p.shows q.shows)

-- one more of a list
pub shows_more : {A : Type 0} (f : A → List (List ℕ)) (xs : List A) (i : ℕ) (x : A) (a b c : List ℕ) → i < length xs
    → Shows a b (flat_map f (take i xs)) → Shows b c (f (get_or xs i x)) → Shows a c (flat_map f (take (i + 1) xs))
shows_more {A} f xs i x a b c lt p q =
    subst (λ (ws : List (List ℕ)). Shows a c ws)
    (ap (λ (t : List (List ℕ)). flat_map f (take i xs) ++ t) (sym (flat_map-one f (get_or xs i x)))
    ∙ sym (flat_map-append f (take i xs) (get_or xs i x ∷ [])) ∙ ap (λ (ys : List A). flat_map f ys) (sym (take_more xs i x lt)))
    (shows_then a b c (flat_map f (take i xs)) (f (get_or xs i x)) p q)
