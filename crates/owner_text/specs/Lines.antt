-- The lines that tell what was found of a graph of owners, each without its line feed. All of it is
-- own.
use Rattle.std.specs.Prelude.{ℕ, zero, suc, ◌-◌, Bool, cond, not, ◌&&◌, List, [], ◌∷◌, ◌++◌, map}
use Rattle.std.specs.Prelude.{length, ◌==◌, codes, decimal}
use Rattle.owner_text.specs.Prelude.{at, Findings, flat_map, held_on, Holding, homes, marked}
use Rattle.owner_text.specs.Prelude.{pairs_at}
use Rattle.owner_graph.specs.Weakenings.{knot_ties}
use Rattle.owner_graph.specs.declared.label_pairs.LabelPair.{LabelPair}
use Rattle.owner_text.specs.Drafts.{Draft, is_object, object_at}
use Rattle.owner_text.specs.Labels.{label_text}

-- the greatest number up to which there may be objects
abbrev pub vertices_of : Draft → ℕ
vertices_of d = length d.objects - 1

-- the lines of each number, from 1 to this one
abbrev pub lines_to : (ℕ → List (List ℕ)) → ℕ → List (List ℕ)
lines_to f zero = []
lines_to f (suc n) = lines_to f n ++ f (suc n)

-- an object is kept, or leaked, or has ended
abbrev pub status_text : Bool → Bool → List ℕ
status_text is_kept stays =
    cond is_kept (codes "kept") (cond stays (codes "leaked") (codes "ended"))

-- a label after a space, or nothing
abbrev pub label_part : List ℕ → List ℕ
label_part label = cond (length label == 0) [] (codes " " ++ label)

abbrev pub object_text : ℕ → List ℕ → List ℕ → List ℕ
object_text number status label =
    codes "object " ++ decimal number ++ codes " " ++ status ++ label_part label

abbrev pub kind_text : Bool → List ℕ
kind_text is_owner = cond is_owner (codes "owner") (codes "weak")

-- a handle, by where it is
abbrev pub handle_text : List (List ℕ) → Holding → List ℕ
handle_text labels h = cond (h.from == 0) (codes "  root " ++ label_text labels h.label)
    (codes "  " ++ kind_text h.is_owner ++ codes " " ++ decimal h.from ++ codes " "
    ++ label_text labels h.label)

abbrev pub object_label : Draft → ℕ → List ℕ
object_label d number = label_text d.labels (object_at d.objects number - 1)

-- an object, and under it the handles on it, in the order of the text
abbrev pub object_lines : Draft → Findings → ℕ → List (List ℕ)
object_lines d f number =
    cond (is_object d.objects number)
    (object_text number (status_text (marked f.kept.items number)
    (marked f.index.stays.items number))
    (object_label d number) ∷ map (handle_text d.labels) (held_on d.handles number)) []

-- an object of a knot, after a space
abbrev pub member_text : Holding → List ℕ
member_text home = codes " " ++ decimal home.from

abbrev pub knot_text : List Holding → List ℕ
knot_text members = codes "knot" ++ flat_map member_text members

-- an owner in a knot, after a word
abbrev pub tie_text : List ℕ → List (List ℕ) → Holding → List ℕ
tie_text word labels h =
    codes "  " ++ word ++ codes " " ++ decimal h.from ++ codes " " ++ decimal h.to ++ codes " "
    ++ label_text labels h.label

abbrev pub cut_lines : List Bool → List (List ℕ) → Holding → List (List ℕ)
cut_lines cuts labels h = cond (marked cuts h.slot) (tie_text (codes "cut") labels h ∷ []) []

-- a label whose owners would have to be weak, or two
abbrev pub weaken_text : List (List ℕ) → LabelPair → List ℕ
weaken_text labels p =
    codes "  weaken " ++ label_text labels p.first
    ++ cond (p.first == p.second) [] (codes " and " ++ label_text labels p.second)

-- a knot that these owners tie
abbrev pub tied_lines : Draft → Findings → ℕ → List Holding → List (List ℕ)
tied_lines d f least [] = []
tied_lines d f least (t ∷ ts) =
    knot_text (held_on (homes f.knots.items (vertices_of d)) least)
    ∷ map (tie_text (codes "tie") d.labels) (t ∷ ts)
    ++ flat_map (cut_lines f.cuts.items d.labels) (t ∷ ts)
    ++ map (weaken_text d.labels) (pairs_at f.weakenings.items least)

-- the knot with this least object, where something ties it
abbrev pub knot_lines : Draft → Findings → ℕ → List (List ℕ)
knot_lines d f least =
    cond (at f.knots.items least == least)
    (tied_lines d f least (knot_ties f.kept.items f.knots.items (vertices_of d) d.handles least)) []

-- how many of the numbers from 1 to this one are so
abbrev pub counted : (ℕ → Bool) → ℕ → ℕ
counted p zero = 0
counted p (suc n) = cond (p (suc n)) (suc (counted p n)) (counted p n)

-- an object stays, and is not kept
abbrev pub is_leaked : Draft → Findings → ℕ → Bool
is_leaked d f number =
    is_object d.objects number && not (marked f.kept.items number)
    && marked f.index.stays.items number

abbrev pub objects_in : Draft → ℕ
objects_in d = counted (is_object d.objects) (vertices_of d)

abbrev pub leaked_in : Draft → Findings → ℕ
leaked_in d f = counted (is_leaked d f) (vertices_of d)

abbrev pub totals_text : ℕ → ℕ → ℕ → List ℕ
totals_text objects handles leaked =
    codes "objects " ++ decimal objects ++ codes " handles " ++ decimal handles ++ codes " leaked "
    ++ decimal leaked

-- all lines of a graph of which this was found
abbrev pub all_lines : Draft → Findings → List (List ℕ)
all_lines d f =
    lines_to (object_lines d f) (vertices_of d) ++ lines_to (knot_lines d f) (vertices_of d)
    ++ totals_text (objects_in d) (length d.handles) (leaked_in d f) ∷ []
