-- What is found, where it was found by slices of what was found before.
use Rattle.std.proofs.Common.{◌≡◌, ◌↔◌, ℕ, ◌<◌, Bool, true, List, length, subst}
use Rattle.owner_graph.proofs.Prelude.{AreWeakenings, at, EndsWhenCut, handle_listed, held_in}
use Rattle.owner_graph.proofs.Prelude.{Holding, is_tie, knot_ties, KnotsAre, labels_of, marked}
use Rattle.owner_graph.proofs.Prelude.{pairs_at, row_at, ◌≤◌}
use Rattle.owner_graph.specs.Findings.{AreFindings}
use Rattle.owner_graph.specs.declared.findings.Findings.{Findings}
use Rattle.owner_graph.specs.Indices.{IsIndex}
use Rattle.owner_graph.specs.Owners.{IsKept}

module _ (vertices : ℕ) (hs : List Holding) (f : Findings) where
  -- which handles are cuts, by what is kept and by knots
  abbrev pub CutsAre : List Bool → List ℕ → Type 0
  CutsAre kept knots = (i : ℕ) → i < length hs → marked f.cuts.items i ≡ true
      ↔ ((is_tie kept knots (handle_listed hs i) ≡ true)
      × EndsWhenCut vertices hs (at knots (handle_listed hs i).from) (handle_listed hs i))

  -- what lets knots end
  abbrev pub WeakeningsAre : List Bool → List ℕ → Type 0
  WeakeningsAre kept knots = (k : ℕ) → 1 ≤ k → k ≤ vertices → at knots k ≡ k
      → AreWeakenings vertices hs knots k (labels_of (knot_ties kept knots vertices hs k))
      (pairs_at f.weakenings.items k)

  pub all_found : (marks : List Bool) (labels : List ℕ) → marks ≡ f.kept.items
      → labels ≡ f.knots.items
      → ((b : ℕ) → b ≤ vertices → marked f.kept.items b ≡ true ↔ IsKept hs b)
      → KnotsAre vertices hs f.knots.items
      → IsIndex vertices hs labels f.index → ((b : ℕ) → row_at f.sources.items b ≡ held_in hs b)
      → CutsAre marks labels → WeakeningsAre marks labels → AreFindings vertices hs f
  all_found marks labels m l kept knots index sources cuts weakenings = record {
    kept = kept;
    knots = knots;
    index = subst (λ (x : List ℕ). IsIndex vertices hs x f.index) l index;
    sources = sources;
    cuts = subst (λ (y : List Bool). CutsAre y f.knots.items) m (subst (CutsAre marks) l cuts);
    weakenings = subst (λ (y : List Bool). WeakeningsAre y f.knots.items) m
        (subst (WeakeningsAre marks) l weakenings);
  }
