-- The labels whose owners, made weak, would let a knot end. All of it is own.
use Rattle.std.specs.Prelude.{◌≡◌, ℕ, ◌<◌, ◌≤◌, ◌==◌, ◌++◌, Bool, cond, List, [], ◌∷◌, length, map}
use Rattle.std.specs.List.{filter, flat_map, list_any}
use Rattle.owner_graph.specs.declared.holding.Holding.{Holding}
use Rattle.owner_graph.specs.declared.label_pairs.LabelPair.{LabelPair}
use Rattle.owner_graph.specs.declared.weakening.Weakening.TheVariants.{Labelled}
use Rattle.owner_graph.specs.Ends.{EndsWithout, is_weakened}
use Rattle.owner_graph.specs.Members.{homes}
use Rattle.owner_graph.specs.Rows.{held_in, held_on}
use Rattle.owner_graph.specs.Ties.{is_tie}

-- the owners in a vertex of a knot that tie it
abbrev pub ties_in : List Bool → List ℕ → List Holding → Holding → List Holding
ties_in kept knots hs home = filter (is_tie kept knots) (held_in hs home.from)

-- the owners that tie the knot with this least vertex, in the order of its vertices
abbrev pub knot_ties : List Bool → List ℕ → ℕ → List Holding → ℕ → List Holding
knot_ties kept knots vertices hs least =
    flat_map (ties_in kept knots hs) (held_on (homes knots vertices) least)

-- their labels, each once, without those of a list
abbrev pub new_labels : List ℕ → List Holding → List ℕ
new_labels seen [] = []
new_labels seen (h ∷ hs) =
    cond (list_any (λ l. l == h.label) seen) (new_labels seen hs)
    (h.label ∷ new_labels (seen ++ h.label ∷ []) hs)

abbrev pub labels_of : List Holding → List ℕ
labels_of hs = new_labels [] hs

abbrev pub label_pair : ℕ → ℕ → LabelPair
label_pair first second = record { first = first; second = second }

-- each label with itself
abbrev pub twice : ℕ → LabelPair
twice label = label_pair label label

-- each label with each after it
abbrev pub pairs : List ℕ → List LabelPair
pairs [] = []
pairs (l ∷ ls) = map (label_pair l) ls ++ pairs ls

-- of a list, in order, just those of which this is so
pub data AreThose {A : Type 0} (P : A → Type 0) : List A → List A → Type 0 where
  NoMore : AreThose P [] []
  OneIs : (x : A) (xs ys : List A) → P x → AreThose P xs ys → AreThose P (x ∷ xs) (x ∷ ys)
  NotOne : (x : A) (xs ys : List A) → (P x → ⊥) → AreThose P xs ys → AreThose P (x ∷ xs) ys

-- where the owners with these labels in the knot with this least vertex were weak, each vertex of
-- it would end
abbrev pub Suffices : ℕ → List Holding → List ℕ → ℕ → LabelPair → Type 0
Suffices vertices hs knots least p =
    EndsWithout vertices hs (is_weakened knots (Labelled least p.first p.second)) least

-- the labels of a knot that suffice by themselves, and where none does, of at most 20, the pairs
-- that do
pub data AreWeakenings (vertices : ℕ) (hs : List Holding) (knots : List ℕ) (least : ℕ)
    (labels : List ℕ) (ws : List LabelPair) : Type 0 where
  OneSuffices : 0 < length ws → AreThose (Suffices vertices hs knots least) (map twice labels) ws
      → AreWeakenings vertices hs knots least labels ws
  TwoSuffice : AreThose (Suffices vertices hs knots least) (map twice labels) []
      → length labels ≤ 20
      → AreThose (Suffices vertices hs knots least) (pairs labels) ws
      → AreWeakenings vertices hs knots least labels ws
  NoneSuffices : AreThose (Suffices vertices hs knots least) (map twice labels) []
      → 20 < length labels → ws ≡ []
      → AreWeakenings vertices hs knots least labels ws
