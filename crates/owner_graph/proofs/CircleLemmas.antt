-- Without an owner within a circle, all its vertices end.
use Rattle.std.proofs.Common.{◌≡◌, ◌≢◌, ◌↔◌, inl, inr, ℕ, ◌==◌, ◌&&◌, Bool, true, false}
use Rattle.std.proofs.Common.{true≢false, List, [], ◌∷◌, refl, sym, ap, subst, ◌∙◌, arith, eq-eqb}
use Rattle.owner_graph.proofs.Prelude.{All, All-head, All-tail, at, Ended, EndsWhenCut}
use Rattle.owner_graph.proofs.Prelude.{EndsWithOwners, Holding, IsAmong, IsOwnerPath, KnotsAre}
use Rattle.owner_graph.proofs.Prelude.{marked, OwnersLead, Owns, same_place, without, ◌≤◌}
use Rattle.owner_graph.specs.declared.circles.Circles.{Circles}
use Rattle.owner_graph.specs.Circles.{IsLinked, IsOnCircle}
use Rattle.owner_graph.proofs.CutLemmas.{and_then, knot_label, same_knot}
use Rattle.owner_graph.proofs.Feeds.{owner_among, still_owned}
use Rattle.owner_graph.proofs.LabelLemmas.{one_then, owned_among}
use Rattle.owner_graph.proofs.Layers.{left_owner}
use Rattle.owner_graph.proofs.OneKnot.{fewer}

-- what leads to a vertex that ends does too
leads_to_end : (hs : List Holding) (a : ℕ) (path : List ℕ) (b : ℕ) → EndsWithOwners hs b
    → IsOwnerPath hs a path b
    → EndsWithOwners hs a
leads_to_end hs a [] b e same = subst (EndsWithOwners hs) (sym same) e
leads_to_end hs a (x ∷ xs) b e p = before x (leads_to_end hs x xs b e p.1) p.0
  where
    before : (y : ℕ) → EndsWithOwners hs y → Owns hs a y → EndsWithOwners hs a
    before _ (Ended y ne f) o = f a o

pub place_of : (h t : Holding) → h.from ≡ t.from → h.slot ≡ t.slot → same_place h t ≡ true
place_of h t from slot = both (h.from == t.from) (h.slot == t.slot) (eq-eqb h.from t.from from)
    (eq-eqb h.slot t.slot slot)
  where
    both : (a b : Bool) → a ≡ true → b ≡ true → (a && b) ≡ true
    both true true p q = refl
    both true false p q = q
    both false b p q = p

module _ (vertices : ℕ) (hs : List Holding) (knots : List ℕ) (are : KnotsAre vertices hs knots)
    (among : All (IsAmong vertices) hs) (stays : List Bool)
    (ends : (b : ℕ) → b ≤ vertices → marked stays b ≡ false ↔ EndsWithOwners hs b) (c : Circles)
    (linked : All (IsLinked stays knots c) hs) (t : Holding) where
  abbrev gone : Holding → Bool
  gone h = same_place h t

  abbrev Ends : ℕ → Type 0
  Ends b = EndsWithOwners (without gone hs) b

  -- an owner in a, on b
  abbrev Seen : Holding → ℕ → ℕ → Type 0
  Seen h a b = (h.from ≡ a) × (h.to ≡ b) × IsLinked stays knots c h

  seen : All (λ (h : Holding). Seen h h.from h.to) hs
  seen i d lt = (refl, refl, linked i d lt)

  -- an owner that is left on a vertex of a circle is in a vertex that ends, or at the vertex's
  -- place
  ends_but : (b : ℕ) → b ≢ 0 → marked c.are.items (at knots b) ≡ true
      → ((h : Holding) → gone h ≡ false → h.from ≡ at c.sources.items b
      → h.slot ≡ at c.slots.items b → Ends h.from)
      → Ends b
  ends_but b ne circle placed =
      Ended b ne (λ a o.
      let l = left_owner gone Seen hs seen a b o in
      let h = l.handle in
      let le = owner_among vertices hs a b among (still_owned gone a b hs o) in
      subst Ends l.so.0 (by h l.other (l.so.2 l.owner) l.so.1
      (subst (λ (x : ℕ). x ≤ vertices) (sym l.so.0) le)))
    where
      by : (h : Holding) → gone h ≡ false → (h.to ≢ 0)
          × (marked stays h.from ≡ true → marked c.are.items (at knots h.to) ≡ true
          → (h.from ≡ at c.sources.items h.to) × (h.slot ≡ at c.slots.items h.to)) → h.to ≡ b
          → h.from ≤ vertices → Ends h.from
      by h other link to le = go (marked stays h.from) refl
        where
          go : (s : Bool) → marked stays h.from ≡ s → Ends h.from
          go true is =
              let place = link.1 is (subst (λ (x : ℕ). marked c.are.items (at knots x) ≡ true)
              (sym to) circle) in
              placed h other (place.0 ∙ ap (at c.sources.items) to)
              (place.1 ∙ ap (at c.slots.items) to)
          go false is = fewer gone hs h.from ((ends h.from le).0 is)

  -- an owner is on a vertex, and where it counts, in the vertex that is on_circle
  link_of : (l : List Holding) → All (IsLinked stays knots c) l → (a b : ℕ) → Owns l a b → (b ≢ 0)
      × (marked stays a ≡ true → marked c.are.items (at knots b) ≡ true → a ≡ at c.sources.items b)
  link_of [] all a b o = absurd o
  link_of (h ∷ l) all a b (inl o) =
      let x = All-head (IsLinked stays knots c) h l all o.0 in (
        λ z. x.0 (o.2 ∙ z),
        λ stay circle.
            sym o.1
            ∙ (x.1 (subst (λ (y : ℕ). marked stays y ≡ true) (sym o.1) stay)
            (subst (λ (y : ℕ). marked c.are.items (at knots y) ≡ true) (sym o.2) circle)).0
            ∙ ap (at c.sources.items) o.2,
      )
  link_of (h ∷ l) all a b (inr o) = link_of l (All-tail (IsLinked stays knots c) h l all) a b o

  module _ (some : 1 ≤ t.to) (le : t.to ≤ vertices) (own : at knots t.to ≡ t.to)
      (on_circle : IsOnCircle vertices knots c t) where
    abbrev Inside : ℕ → Type 0
    Inside b = (1 ≤ b) × (b ≤ vertices) × (at knots b ≡ t.to)

    some_vertex : (b : ℕ) → 1 ≤ b → b ≢ 0
    some_vertex b one z = absurd (omega (arith, z, one))

    in_circle : (b : ℕ) → Inside b → marked c.are.items (at knots b) ≡ true
    in_circle b in_ = subst (λ (k : ℕ). marked c.are.items k ≡ true) (sym in_.2) on_circle.3

    -- where a vertex ends, the next one does
    next_ends : (a b : ℕ) → a ≤ vertices → Ends a → Owns hs a b → OwnersLead hs b a → Inside b
        → Ends b
    next_ends a b le_a e o back in_ = go (marked stays a) refl
      where
        go : (s : Bool) → marked stays a ≡ s → Ends b
        go true is =
            let source = (link_of hs linked a b o).1 is (in_circle b in_) in
            ends_but b (some_vertex b in_.0) (in_circle b in_)
            (λ h other from slot. subst Ends (source ∙ sym from) e)
        go false is = fewer gone hs b (leads_to_end hs b back.0 a ((ends a le_a).0 is) back.1)

    path_ends : (a : ℕ) (path : List ℕ) (b : ℕ) → Inside a → Ends a → IsOwnerPath hs a path b
        → Inside b → Ends b
    path_ends a [] b in_ e same out = subst Ends same e
    path_ends a (x ∷ xs) b in_ e p out =
        let ne = (link_of hs linked a x p.0).0 in
        let one : 1 ≤ x = omega (arith, ne) in
        let le_x = owned_among vertices hs a x among p.0 in
        let to_a = (same_knot hs vertices knots are b a out.0 out.1 in_.0 in_.1
        (in_.2 ∙ sym out.2)).0 in
        let back = and_then hs x b a (xs, p.1) to_a in
        let label = knot_label hs vertices knots are a x in_.0 in_.1 one le_x
        (one_then hs a x x p.0 ([], refl), back) in
        let inside : Inside x = (one, le_x, label ∙ in_.2) in
        path_ends x xs b inside (next_ends a x in_.1 e p.0 back inside) p.1 out

    -- the circle ends without an owner within it
    pub circle_ends : EndsWhenCut vertices hs t.to t
    circle_ends a one within keep =
        let v = at c.targets.items t.from in
        let inside : Inside v = (on_circle.0, on_circle.1, on_circle.2) in
        let first : Ends v = ends_but v (some_vertex v on_circle.0) (in_circle v inside)
        (λ h other from slot.
        absurd (true≢false (sym (place_of h t (from ∙ sym on_circle.4.0) (slot ∙ sym on_circle.4.1))
        ∙ other))) in
        let path = and_then hs v t.to a (same_knot hs vertices knots are v t.to on_circle.0 on_circle.1 some
        le (own ∙ sym on_circle.2)).0 keep.0 in
        path_ends v path.0 a inside first path.1
        (one, within, knot_label hs vertices knots are t.to a some le one within keep ∙ own)
