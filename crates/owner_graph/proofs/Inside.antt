-- What is to be weak is in the knot.
use Rattle.std.proofs.Common.{◌≡◌, ◌≢◌, ℕ, ◌==◌, ◌&&◌, ◌||◌, true, List, ap, ◌∙◌, arith, nat_lt}
use Rattle.owner_graph.proofs.Prelude.{and_parts, at, eqb-true, Holding, is_weakened, ltb-true}
use Rattle.owner_graph.proofs.Prelude.{same_place, ◌≤◌}
use Rattle.owner_graph.specs.declared.weakening.Weakening.TheVariants.{Labelled}

pub placed_inside : (knots : List ℕ) (t : Holding) (least : ℕ) → 1 ≤ t.from
    → at knots t.from ≡ least → (h : Holding) → same_place h t ≡ true
    → (h.from ≢ 0) × (at knots h.from ≡ least)
placed_inside knots t least some same h is =
    let from = eqb-true h.from t.from (and_parts (h.from == t.from) (h.slot == t.slot) is).0 in
    (λ z. absurd (omega (arith, z, from, some)), ap (at knots) from ∙ same)

pub labelled_inside : (knots : List ℕ) (least first second : ℕ) (h : Holding)
    → is_weakened knots (Labelled least first second) h ≡ true
    → (h.from ≢ 0) × (at knots h.from ≡ least)
labelled_inside knots least first second h is =
    let a = nat_lt 0 h.from in
    let b = at knots h.from == least in
    let ab = (and_parts (a && b) (h.label == first || h.label == second) is).0 in
    let parts = and_parts a b ab in
    let some = ltb-true 0 h.from parts.0 in
    (λ z. absurd (omega (arith, z, some)), eqb-true (at knots h.from) least parts.1)
