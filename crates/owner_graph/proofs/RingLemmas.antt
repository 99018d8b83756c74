-- A tie that is no owner of a ring is no cut.
use Rattle.std.proofs.Common.{◌≡◌, ◌↔◌, inl, inr, ℕ, ◌<◌, ◌==◌, Bool, true, false}
use Rattle.std.proofs.Common.{true≢false, List, refl, sym, ap, subst, ◌∙◌, arith}
use Rattle.owner_graph.proofs.Prelude.{All, and_parts, at, cases_eq, Ended, EndsWhenCut}
use Rattle.owner_graph.proofs.Prelude.{EndsWithOwners, eqb-true, handle_listed, held_on, Holding}
use Rattle.owner_graph.proofs.Prelude.{IsAmong, KnotsAre, marked, OwnersLead, same_place, without}
use Rattle.owner_graph.proofs.Prelude.{◌≤◌}
use Rattle.owner_graph.specs.declared.rings.Ring.{Ring}
use Rattle.owner_graph.specs.Rings.{HasRingHolder, HoldsRing, IsBeside, IsRingPlace}
use Rattle.owner_graph.proofs.CutLemmas.{same_knot}
use Rattle.owner_graph.proofs.Feeds.{owner_among, still_owned}
use Rattle.owner_graph.proofs.Inside.{placed_inside}
use Rattle.owner_graph.proofs.LabelLemmas.{one_then}
use Rattle.owner_graph.proofs.OneKnot.{outer_ends, outside_stays, row_owned}

module _ (vertices : ℕ) (hs : List Holding) (knots : List ℕ) (are : KnotsAre vertices hs knots)
    (among : All (IsAmong vertices) hs) (stays : List Bool)
    (ends : (b : ℕ) → b ≤ vertices → marked stays b ≡ false ↔ EndsWithOwners hs b) (r : Ring)
    (ring : (b : ℕ) → 1 ≤ b → b ≤ vertices → 0 < at r.sources.items b
    → HasRingHolder stays knots r b (held_on hs b))
    (t : Holding) (in_some : 1 ≤ t.from) (tied : at knots t.from ≡ t.to) (some : 1 ≤ t.to)
    (le : t.to ≤ vertices) (own : at knots t.to ≡ t.to)
    (beside : IsBeside vertices knots r t) where
  abbrev gone : Holding → Bool
  gone h = same_place h t

  -- the owner by which the ring holds a vertex is not the tie
  not_gone : (b : ℕ) (h : Holding) → at knots b ≡ t.to → HoldsRing stays knots r b h
      → gone h ≡ true → ⊥
  not_gone b h label holds is =
      let parts = and_parts (h.from == t.from) (h.slot == t.slot) is in
      let from = eqb-true h.from t.from parts.0 in
      let slot = eqb-true h.slot t.slot parts.1 in
      elim holds.2 [
        | inl x ↦
            let place : at r.targets.items t.from ≡ b = ap (at r.targets.items) (sym from) ∙ x.2 in
            beside.4 (subst (λ (v : ℕ). IsRingPlace r v t) (sym place)
            (sym from ∙ holds.1.0, sym slot ∙ holds.1.1))
        | inr x ↦ x.0 (ap (at knots) from ∙ tied ∙ sym label)
      ]

  left : (b : ℕ) (h : Holding) → at knots b ≡ t.to → HoldsRing stays knots r b h → gone h ≡ false
  left b h label holds = go (gone h) refl
    where
      go : (s : Bool) → gone h ≡ s → gone h ≡ false
      go true is = absurd (not_gone b h label holds is)
      go false is = is

  vertex_stays : (b : ℕ) → EndsWithOwners (without gone hs) b → 1 ≤ b → b ≤ vertices
      → at knots b ≡ t.to → 0 < at r.sources.items b → ⊥
  unfolding HasRingHolder
  vertex_stays _ (Ended b ne f) one within label in_ring =
      let s = ring b one within in_ring in
      let h = handle_listed (held_on hs b) s.0 in
      let holds : HoldsRing stays knots r b h = s.2 in
      let o = row_owned gone hs b s.0 s.1 (left b h label holds) holds.0 in
      let e = f h.from o in
      let was = still_owned gone h.from b hs o in
      let le_h = owner_among vertices hs h.from b among was in
      elim holds.2 [
        | inl x ↦ elim (cases_eq h.from 0) [
          | inl z ↦ outside_stays (without gone hs) h.from z e
          | inr ne_h ↦
              vertex_stays h.from (f h.from o) (omega (arith, ne_h)) le_h (x.0 ∙ label) x.1
        ]
        | inr x ↦
            let to : OwnersLead hs b t.to =
            subst (λ (k : ℕ). OwnersLead hs b k) label (are.each b one within).knotted.0 in
            let ended = outer_ends vertices hs knots are among gone stays ends t.to some le own
            (placed_inside knots t t.to in_some tied) h.from e
            (λ same. x.0 (same ∙ sym label)) (one_then hs h.from b t.to was to) le_h in
            true≢false (sym x.1 ∙ (ends h.from le_h).1 ended)
      ]

  -- the knot stays without the tie
  pub knot_stays : EndsWhenCut vertices hs t.to t → ⊥
  knot_stays cut =
      let first = at r.firsts.items t.to in
      let keep = same_knot hs vertices knots are t.to first some le beside.0 beside.1
      (beside.2 ∙ sym own) in
      vertex_stays first (cut first beside.0 beside.1 keep) beside.0 beside.1 beside.2 beside.3
