-- Vertices of one knot, and what it ends without.
use Rattle.std.proofs.Common.{◌≡◌, ◌↔◌, ℕ, Bool, true, false, true≢false, List, [], ◌∷◌, refl, sym}
use Rattle.std.proofs.Common.{subst, ◌∙◌, arith}
use Rattle.std.specs.Prelude.{IsTrue}
use Rattle.owner_graph.proofs.Prelude.{at, EndsWithout, EndsWithOwners, Holding, IsLeast}
use Rattle.owner_graph.proofs.Prelude.{IsOwnerPath, KeepEachOther, KnotsAre, marked, OwnersLead}
use Rattle.owner_graph.proofs.Prelude.{without, ◌≤◌}

module _ (hs : List Holding) where
  further : (a x b : ℕ) (path : List ℕ) → IsOwnerPath hs a path x → OwnersLead hs x b
      → OwnersLead hs a b
  further a x b [] e h = subst (λ (y : ℕ). OwnersLead hs y b) (sym e) h
  further a x b (y ∷ ys) p h = let rest = further y x b ys p.1 h in (y ∷ rest.0, (p.0, rest.1))

  pub and_then : (a x b : ℕ) → OwnersLead hs a x → OwnersLead hs x b → OwnersLead hs a b
  and_then a x b l h = further a x b l.0 l.1 h

  module _ (vertices : ℕ) (knots : List ℕ) (are : KnotsAre vertices hs knots) (b a : ℕ)
      (some_b : 1 ≤ b) (le_b : b ≤ vertices)
      (some_a : 1 ≤ a) (le_a : a ≤ vertices) where
    lb : IsLeast hs b (at knots b)
    lb = are.each b some_b le_b

    la : IsLeast hs a (at knots a)
    la = are.each a some_a le_a

    pub knot_label : KeepEachOther hs b a → at knots a ≡ at knots b
    knot_label k =
        let l = lb in
        let m = la in
        let one = l.first (at knots a) m.some (
          and_then b a (at knots a) k.0 m.knotted.0,
          and_then
              (at knots a) a b m.knotted.1 k.1,
        ) in
        let two = m.first (at knots b) l.some (
          and_then a b (at knots b) k.1 l.knotted.0,
          and_then
              (at knots b) b a l.knotted.1 k.0,
        ) in
        omega (arith, one, two)

    pub same_knot : at knots a ≡ at knots b → KeepEachOther hs b a
    same_knot e =
        let l = lb in
        let m = subst (λ (x : ℕ). IsLeast hs a x) e la in (
          and_then b (at knots b) a l.knotted.0 m.knotted.1,
          and_then a (at knots b) b m.knotted.0 l.knotted.1,
        )

-- the label of a least vertex is its own
pub own_label : (vertices : ℕ) (hs : List Holding) (knots : List ℕ) → KnotsAre vertices hs knots
    → (b k : ℕ) → 1 ≤ b → b ≤ vertices → 1 ≤ k → k ≤ vertices → at knots b ≡ k → at knots k ≡ k
own_label vertices hs knots are b k some_b le_b some_k le_k is =
    let l = subst (λ (x : ℕ). IsLeast hs b x) is (are.each b some_b le_b) in
    knot_label hs vertices knots are b k some_b le_b some_k le_k l.knotted ∙ is

module _ (vertices : ℕ) (hs : List Holding) (knots : List ℕ) (are : KnotsAre vertices hs knots)
    (b : ℕ) (some_b : 1 ≤ b) (le_b : b ≤ vertices)
    (gone : Holding → Bool) (stays : List Bool) (ends : (a : ℕ) → a ≤ vertices
    → marked stays a ≡ false ↔ EndsWithOwners (without gone hs) a) where
  -- a vertex of the knot stays
  pub no_cut : (a : ℕ) → 1 ≤ a → a ≤ vertices → at knots a ≡ at knots b → marked stays a ≡ true
      → IsTrue false ↔ EndsWithout vertices hs gone b
  no_cut a some le same stay = (
    λ yes. absurd (true≢false (sym yes)),
    λ cut. absurd (true≢false
        (sym stay ∙ (ends a le).1
        (cut a some le (same_knot hs vertices knots are b a some_b le_b some le same)))),
  )

  -- none does
  pub all_cut : ((a : ℕ) → 1 ≤ a → a ≤ vertices → at knots a ≡ at knots b → marked stays a ≡ false)
      → IsTrue true ↔ EndsWithout vertices hs gone b
  all_cut none = (
    λ yes a some le k. (ends a le).0
        (none a some le (knot_label hs vertices knots are b a some_b le_b some le k)),
    λ cut. refl,
  )
