-- What is found of a graph of owners. All of it is own.
use Rattle.std.specs.Prelude.{◌≡◌, ◌↔◌, ℕ, ◌<◌, ◌≤◌, true, List, [], length}
use Rattle.std.specs.Prelude.{Option, Some, None, slice_get}
use Rattle.std.specs.Global.{Vec}
use Rattle.owner_graph.specs.declared.holding.Holding.{Holding}
use Rattle.owner_graph.specs.declared.findings.Findings.{Findings}
use Rattle.owner_graph.specs.declared.label_pairs.LabelPair.{LabelPair}
use Rattle.owner_graph.specs.Ends.{EndsWhenCut}
use Rattle.owner_graph.specs.Fed.{marked}
use Rattle.owner_graph.specs.Indices.{IsIndex}
use Rattle.owner_graph.specs.Knots.{KnotsAre}
use Rattle.owner_graph.specs.Labels.{at}
use Rattle.owner_graph.specs.Owners.{IsKept}
use Rattle.owner_graph.specs.Rows.{handle_listed}
use Rattle.owner_graph.specs.Rows.{held_in, row_at}
use Rattle.owner_graph.specs.Ties.{is_tie}
use Rattle.owner_graph.specs.Weakenings.{AreWeakenings, knot_ties, labels_of}

abbrev pub pairs_in : Option (Vec LabelPair) → List LabelPair
pairs_in None = []
pairs_in (Some row) = row.items

-- the pairs with a vertex's number; none where there are fewer rows
abbrev pub pairs_at : List (Vec LabelPair) → ℕ → List LabelPair
pairs_at rows b = pairs_in (slice_get rows b)

-- the handle ties a knot, and without it each vertex of the knot would end
abbrev pub IsCut : ℕ → List Holding → Findings → Holding → Type 0
IsCut vertices hs f h =
    (is_tie f.kept.items f.knots.items h ≡ true) × EndsWhenCut vertices hs
    (at f.knots.items h.from) h

-- so much is so of the pairs of labels of the knot with this least vertex
abbrev pub HasWeakenings : ℕ → List Holding → Findings → ℕ → List LabelPair → Type 0
HasWeakenings vertices hs f least ws =
    at f.knots.items least ≡ least → AreWeakenings vertices hs f.knots.items least
    (labels_of (knot_ties f.kept.items f.knots.items vertices hs least)) ws

-- of so many vertices, from 1: which are kept, their knots, which stay, what is in each and on it,
-- which of the handles are cuts, and what lets knots end
pub record AreFindings (vertices : ℕ) (hs : List Holding) (f : Findings) : Type 0 where
  pub kept : (b : ℕ) → b ≤ vertices → marked f.kept.items b ≡ true ↔ IsKept hs b
  pub knots : KnotsAre vertices hs f.knots.items
  pub index : IsIndex vertices hs f.knots.items f.index
  pub sources : (b : ℕ) → row_at f.sources.items b ≡ held_in hs b
  pub cuts : (i : ℕ) → i < length hs → marked f.cuts.items i ≡ true
      ↔ IsCut vertices hs f (handle_listed hs i)
  pub weakenings : (k : ℕ) → 1 ≤ k → k ≤ vertices → HasWeakenings vertices hs f k
      (pairs_at f.weakenings.items k)
