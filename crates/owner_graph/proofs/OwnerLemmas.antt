-- Paths of owners are paths in the graph of their edges.
use Rattle.std.proofs.Common.{◌≡◌, ◌≢◌, ◌↔◌, inl, inr, ℕ, ◌+◌, ◌==◌, Bool, true, false, cond, List}
use Rattle.std.proofs.Common.{[], ◌∷◌, ◌++◌, length, refl, sym, subst, ⊎_elim, arith, eq-eqb}
use Rattle.std.proofs.Common.{ne_eqb}
use Rattle.owner_graph.proofs.Prelude.{cases_eq, cond-false, cond-true, edge_of, HasVertex}
use Rattle.owner_graph.proofs.Prelude.{Holding, IsOwnerPath, IsPath, leading, MarksReached}
use Rattle.owner_graph.proofs.Prelude.{owner_edges, OwnersLead, Owns, Rows, slice_index_or}
use Rattle.owner_graph.proofs.Prelude.{targets, ◌≤◌}

-- an edge is an owner
pub owns : (hs : List Holding) (a b : ℕ) → HasVertex b (leading (owner_edges hs) a) → Owns hs a b
owns [] a b p = absurd p
owns (h ∷ hs) a b p = go h.is_owner refl (λ q. inr (owns hs a b q)) p
  where
    first : h.is_owner ≡ true → h.from ≡ a
        → (HasVertex b (leading (owner_edges hs) a) → Owns (h ∷ hs) a b)
        → HasVertex b (h.to ∷ leading (owner_edges hs) a) → Owns (h ∷ hs) a b
    first o same rest (inl e) = inl (o, same, sym e)
    first o same rest (inr q) = rest q

    go : (t : Bool) → h.is_owner ≡ t
        → (HasVertex b (leading (owner_edges hs) a) → Owns (h ∷ hs) a b)
        → HasVertex b (leading (cond t (edge_of h ∷ []) [] ++ owner_edges hs) a) → Owns (h ∷ hs) a b
    go true o rest q =
        ⊎_elim
        (λ (same : h.from ≡ a). first o same rest (subst (HasVertex b) (cond-true (h.from == a)
        (h.to ∷ leading (owner_edges hs) a) (leading (owner_edges hs) a) (eq-eqb h.from a same)) q))
        (λ (ne : h.from ≢ a). rest (subst (HasVertex b) (cond-false (h.from == a)
        (h.to ∷ leading (owner_edges hs) a) (leading (owner_edges hs) a) (ne_eqb h.from a ne)) q))
        (cases_eq h.from a)
    go false o rest q = rest q

-- an owner is an edge
pub owned : (hs : List Holding) (a b : ℕ) → Owns hs a b → HasVertex b (leading (owner_edges hs) a)
owned [] a b p = absurd p
owned (h ∷ hs) a b (inl p) =
    subst (λ t. HasVertex b (leading (cond t (edge_of h ∷ []) [] ++ owner_edges hs) a)) (sym p.0)
    (subst (HasVertex b) (sym (cond-true (h.from == a) (h.to ∷ leading (owner_edges hs) a)
    (leading (owner_edges hs) a) (eq-eqb h.from a p.1))) (inl (sym p.2)))
owned (h ∷ hs) a b (inr p) = go h.is_owner (owned hs a b p)
  where
    skip : (t : Bool) → HasVertex b (leading (owner_edges hs) a)
        → HasVertex b (cond t (h.to ∷ leading (owner_edges hs) a) (leading (owner_edges hs) a))
    skip true q = inr q
    skip false q = q

    go : (t : Bool) → HasVertex b (leading (owner_edges hs) a)
        → HasVertex b (leading (cond t (edge_of h ∷ []) [] ++ owner_edges hs) a)
    go true q = skip (h.from == a) q
    go false q = q

to_path : (g : Rows) (hs : List Holding) → ((v : ℕ) → targets g v ≡ leading (owner_edges hs) v)
    → (a b : ℕ) (path : List ℕ) → IsPath g a path b → IsOwnerPath hs a path b
to_path g hs rows a b [] e = e
to_path g hs rows a b (x ∷ xs) p = (
  owns hs a x (subst (HasVertex x) (rows a) p.0),
  to_path g hs
      rows x b xs p.1,
)

from_path : (g : Rows) (hs : List Holding) → ((v : ℕ) → targets g v ≡ leading (owner_edges hs) v)
    → (a b : ℕ) (path : List ℕ) → IsOwnerPath hs a path b → IsPath g a path b
from_path g hs rows a b [] e = e
from_path g hs rows a b (x ∷ xs) p =
    (subst (HasVertex x) (sym (rows a)) (owned hs a x p.0), from_path g hs rows x b xs p.1)

-- what is reached in the graph is owned
pub leads : (g : Rows) (hs : List Holding) (marked : List Bool) (vertices root start : ℕ)
    → length g ≡ vertices + 1 → root ≡ start
    → ((v : ℕ) → targets g v ≡ leading (owner_edges hs) v) → MarksReached g root marked
    → (b : ℕ) → b ≤ vertices → slice_index_or marked b false ≡ true ↔ OwnersLead hs start b
leads g hs marked vertices root start size same rows marks b le =
    subst (λ (a : ℕ). slice_index_or marked b false ≡ true ↔ OwnersLead hs a b) same (
      λ is. let r = (marks.reached b (omega (arith, size, le))).0
          is in (r.0, to_path g hs rows root b r.0 r.1),
      λ k. (marks.reached b (omega (arith, size, le))).1 (k.0, from_path g hs rows root b k.0 k.1),
    )
