-- Without the owner that leads from one of its stages to the next, a knot ends.
use Rattle.std.proofs.Common.{◌≡◌, ◌↔◌, inl, inr, ◌⊎◌, ℕ, zero, suc, ◌<◌, Bool, true}
use Rattle.std.proofs.Common.{false, true≢false, List, refl, sym, ap, subst, ◌∙◌, arith}
use Rattle.owner_graph.proofs.Prelude.{All, at, cases_eq, cases_lt, Ended, EndsWhenCut}
use Rattle.owner_graph.proofs.Prelude.{EndsWithOwners, Holding, IsAmong, KnotsAre, marked}
use Rattle.owner_graph.proofs.Prelude.{same_place, without, ◌≤◌}
use Rattle.owner_graph.specs.declared.stages.Stages.{Stages}
use Rattle.owner_graph.specs.Stages.{IsExit, IsOut, IsStaged, LeadsOn, LeadsOut, LeadsRound}
use Rattle.owner_graph.proofs.CircleLemmas.{place_of}
use Rattle.owner_graph.proofs.CutLemmas.{knot_label}
use Rattle.owner_graph.proofs.Feeds.{owner_among, still_owned}
use Rattle.owner_graph.proofs.Layers.{left_owner}
use Rattle.owner_graph.proofs.OneKnot.{fewer}

module _ (vertices : ℕ) (hs : List Holding) (knots : List ℕ) (are : KnotsAre vertices hs knots)
    (among : All (IsAmong vertices) hs) (stays : List Bool)
    (ends : (b : ℕ) → b ≤ vertices → marked stays b ≡ false ↔ EndsWithOwners hs b) (c : Stages)
    (staged : All (IsStaged stays knots c) hs) (t : Holding) (some : 1 ≤ t.to)
    (le : t.to ≤ vertices) (own : at knots t.to ≡ t.to) (out : IsOut c t) where
  abbrev gone : Holding → Bool
  gone h = same_place h t

  abbrev Ends : ℕ → Type 0
  Ends b = EndsWithOwners (without gone hs) b

  abbrev Inside : ℕ → Type 0
  Inside b = (1 ≤ b) × (b ≤ vertices) × (at knots b ≡ t.to)

  abbrev stage : ℕ → ℕ
  stage b = at c.stages.items b

  abbrev rank : ℕ → ℕ
  rank b = at c.ranks.items b

  -- an owner in a, on b
  abbrev Seen : Holding → ℕ → ℕ → Type 0
  Seen h a b = (h.from ≡ a) × (h.to ≡ b) × IsStaged stays knots c h

  seen : All (λ (h : Holding). Seen h h.from h.to) hs
  seen i d lt = (refl, refl, staged i d lt)

  abbrev Leads : Holding → Type 0
  Leads h = LeadsOn c h ⊎ (LeadsOut c h ⊎ LeadsRound c t.to h)

  -- a vertex of the knot ends where each vertex does from which an owner leads to it
  ends_by : (b : ℕ) → Inside b
      → ((h : Holding) → gone h ≡ false → h.to ≡ b → Inside h.from → Leads h → Ends h.from) → Ends b
  ends_by b in_ by =
      Ended b (λ z. let one = in_.0 in absurd (omega (arith, z, one))) (λ a o.
      let l = left_owner gone Seen hs seen a b o in
      let h = l.handle in
      let from = l.so.0 in
      let le_a = owner_among vertices hs a b among (still_owned gone a b hs o) in
      subst Ends from (go h l.owner l.other l.so.1 l.so.2 (omega (arith, from, le_a))
      (marked stays h.from) refl))
    where
      go : (h : Holding) → h.is_owner ≡ true → gone h ≡ false → h.to ≡ b → IsStaged stays knots c h
          → h.from ≤ vertices → (s : Bool) → marked stays h.from ≡ s → Ends h.from
      go h owner other to is within true stay =
          let label : at knots h.to ≡ t.to = ap (at knots) to ∙ in_.2 in
          let l = is owner stay
          (subst (λ (k : ℕ). marked c.are.items k ≡ true) (sym label) out.0) in
          let ne = l.0 in
          by h other to (omega (arith, ne), within, l.1 ∙ label)
          (subst (λ (k : ℕ). LeadsOn c h ⊎ (LeadsOut c h ⊎ LeadsRound c k h)) label l.2)
      go h owner other to is within false off = fewer gone hs h.from ((ends h.from within).0 off)

  -- what leads out of the tie's stage is the tie
  out_of_it : (h : Holding) → gone h ≡ false → IsExit c (stage h.from) h
      → stage h.from ≡ stage t.from → ⊥
  out_of_it h other exit same =
      true≢false
      (sym (place_of h t (exit.0 ∙ ap (at c.sources.items) same ∙ sym out.3.0)
      (exit.1 ∙ ap (at c.slots.items) same ∙ sym out.3.1)) ∙ other)

  -- the stages after that of the tie end first
  late_ends : (n b : ℕ) → rank b < n → Inside b → stage t.from < stage b → Ends b
  late_ends zero b lt in_ late = absurd (omega (arith, lt))
  late_ends (suc n) b lt in_ late = ends_by b in_ (λ h other to inside leads.
      let s = ap (at c.stages.items) to in
      let r = ap (at c.ranks.items) to in
      elim leads [
        | inl x ↦
            let same = x.0 in
            let less = x.1 in
            late_ends n h.from (omega (arith, r, less, lt)) inside (omega (arith, same, s, late))
        | inr more ↦ elim more [
          | inl x ↦
              let next = x.1 in
              let less = x.2 in
              elim (cases_eq (stage h.from) (stage t.from)) [
                | inl same ↦ absurd (out_of_it h other x.0 same)
                | inr ne ↦ late_ends n h.from (omega (arith, r, less, lt)) inside
                    (omega (arith, next, s, late, ne))
              ]
          | inr x ↦
              let first = x.2 in
              let low = out.1 in
              absurd (omega (arith, first, low, s, late))
        ]
      ])

  -- and then those up to it
  early_ends : (n b : ℕ) → rank b < n → Inside b → stage b ≤ stage t.from → Ends b
  early_ends zero b lt in_ early = absurd (omega (arith, lt))
  early_ends (suc n) b lt in_ early = ends_by b in_ (λ h other to inside leads.
      let s = ap (at c.stages.items) to in
      let r = ap (at c.ranks.items) to in
      elim leads [
        | inl x ↦
            let same = x.0 in
            let less = x.1 in
            early_ends n h.from (omega (arith, r, less, lt)) inside (omega (arith, same, s, early))
        | inr more ↦ elim more [
          | inl x ↦
              let next = x.1 in
              let less = x.2 in
              early_ends n h.from (omega (arith, r, less, lt)) inside
              (omega (arith, next, s, early))
          | inr x ↦
              let last = x.1 in
              let high = out.2 in
              elim (cases_eq (stage h.from) (stage t.from)) [
                | inl same ↦ absurd (out_of_it h other x.0 same)
                | inr ne ↦ late_ends (suc (rank h.from)) h.from (omega arith) inside
                    (omega (arith, last, high, ne))
              ]
        ]
      ])

  pub stages_end : EndsWhenCut vertices hs t.to t
  stages_end a one within keep =
      let label = knot_label hs vertices knots are t.to a some le one within keep ∙ own in
      let in_ : Inside a = (one, within, label) in
      elim (cases_lt (stage t.from) (stage a)) [
        | inl late ↦ late_ends (suc (rank a)) a (omega arith) in_ late
        | inr early ↦ early_ends (suc (rank a)) a (omega arith) in_ early
      ]
