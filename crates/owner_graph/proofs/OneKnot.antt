-- What shows of one knot that it ends where some owners are weak, or that it doesn't.
use Rattle.std.proofs.Common.{◌≡◌, ◌≢◌, ◌↔◌, inl, inr, ◌⊎◌, ℕ, zero, suc, ◌<◌, ◌==◌, Bool, true}
use Rattle.std.proofs.Common.{false, true≢false, cond, List, [], ◌∷◌, length, refl, sym, ap, subst}
use Rattle.std.proofs.Common.{◌∙◌, arith, eq-eqb}
use Rattle.owner_graph.proofs.Prelude.{All, All-head, All-tail, at, cases_eq, cond-true, Ended}
use Rattle.owner_graph.proofs.Prelude.{EndsWithout, EndsWithOwners, eqb-true, handle_listed}
use Rattle.owner_graph.proofs.Prelude.{held_on, Holding, IsAmong, KnotsAre, marked, OwnersLead}
use Rattle.owner_graph.proofs.Prelude.{Owns, Rises, without, ◌≤◌}
use Rattle.owner_graph.specs.OneKnot.{HasHolder, IsListed, IsWitness}
use Rattle.owner_graph.proofs.CutLemmas.{knot_label, same_knot}
use Rattle.owner_graph.proofs.Feeds.{owner_among, still_owned}
use Rattle.owner_graph.proofs.LabelLemmas.{one_then, then_one}

-- an owner that is left, as a handle on its vertex
pub record OnRow (gone : Holding → Bool) (P : Holding → Type 0) (a b : ℕ) : Type 0 where
  pub handle : Holding
  pub other : gone handle ≡ false
  pub owner : handle.is_owner ≡ true
  pub source : handle.from ≡ a
  pub so : P handle

module _ (gone : Holding → Bool) where
  rest_of : (P : Holding → Type 0) (h : Holding) (r : List Holding) (s : Bool)
      → All P (cond s (h ∷ r) r) → All P r
  rest_of P h r true all = All-tail P h r all
  rest_of P h r false all = all

  -- what is so of each handle on a vertex is so of an owner there that is left
  pub left_on : (P : Holding → Type 0) (hs : List Holding) (a b : ℕ) → All P (held_on hs b)
      → Owns (without gone hs) a b → OnRow gone P a b
  left_on P [] a b all o = absurd o
  left_on P (h ∷ hs) a b all o =
      go (gone h) refl (λ p. left_on P hs a b (rest_of P h (held_on hs b) (h.to == b) all) p) o
    where
      here : h.to ≡ b → P h
      here e = All-head P h (held_on hs b)
          (subst (All P) (cond-true (h.to == b) (h ∷ held_on hs b) (held_on hs b) (eq-eqb h.to b e))
          all)

      go : (t : Bool) → gone h ≡ t → (Owns (without gone hs) a b → OnRow gone P a b)
          → Owns (cond t (without gone hs) (h ∷ without gone hs)) a b → OnRow gone P a b
      go true is f p = f p
      go false is f (inl p) = record {
        handle = h;
        other = is;
        owner = p.0;
        source = p.1;
        so = here p.2;
      }
      go false is f (inr p) = f p

  lift : (h : Holding) (hs : List Holding) (a b : ℕ) (t : Bool) → Owns (without gone hs) a b
      → Owns (cond t (without gone hs) (h ∷ without gone hs)) a b
  lift h hs a b true o = o
  lift h hs a b false o = inr o

  -- a handle on a vertex that is left is an owner on it
  pub row_owned : (hs : List Holding) (b i : ℕ) → i < length (held_on hs b)
      → gone (handle_listed (held_on hs b) i) ≡ false
      → (handle_listed (held_on hs b) i).is_owner ≡ true
      → Owns (without gone hs) (handle_listed (held_on hs b) i).from b
  row_owned [] b i lt other owner = absurd (omega (arith, lt))
  row_owned (h ∷ hs) b i lt other owner = go (λ k l o w. row_owned hs b k l o w) (h.to == b) refl i
      lt other owner
    where
      go : ((k : ℕ) → k < length (held_on hs b) → gone (handle_listed (held_on hs b) k) ≡ false
          → (handle_listed (held_on hs b) k).is_owner ≡ true
          → Owns (without gone hs) (handle_listed (held_on hs b) k).from b)
          → (s : Bool) → (h.to == b) ≡ s → (k : ℕ)
          → k < length (cond s (h ∷ held_on hs b) (held_on hs b))
          → gone (handle_listed (cond s (h ∷ held_on hs b) (held_on hs b)) k) ≡ false
          → (handle_listed (cond s (h ∷ held_on hs b) (held_on hs b)) k).is_owner ≡ true
          → Owns (cond (gone h) (without gone hs) (h ∷ without gone hs))
          (handle_listed (cond s (h ∷ held_on hs b) (held_on hs b)) k).from b
      go next true is zero l o w =
          subst (λ (t : Bool). Owns (cond t (without gone hs) (h ∷ without gone hs)) h.from b)
          (sym o) (inl (w, refl, eqb-true h.to b is))
      go next true is (suc k) l o w = lift h hs (handle_listed (held_on hs b) k).from b (gone h)
          (next k (omega (arith, l)) o w)
      go next false is k l o w = lift h hs (handle_listed (held_on hs b) k).from b (gone h)
          (next k l o w)

  -- with fewer owners, what ends ends
  pub fewer : (hs : List Holding) (b : ℕ) → EndsWithOwners hs b → EndsWithOwners (without gone hs) b
  fewer hs _ (Ended b ne f) = Ended b ne (λ a o. fewer hs a (f a (still_owned gone a b hs o)))

pub outside_stays : (hs : List Holding) (b : ℕ) → b ≡ 0 → EndsWithOwners hs b → ⊥
outside_stays hs _ z (Ended b ne f) = ne z

module _ (vertices : ℕ) (hs : List Holding) (knots : List ℕ) (are : KnotsAre vertices hs knots)
    (among : All (IsAmong vertices) hs)
    (gone : Holding → Bool) (stays : List Bool) (ends : (b : ℕ) → b ≤ vertices
    → marked stays b ≡ false ↔ EndsWithOwners hs b)
    (least : ℕ) (some : 1 ≤ least) (le : least ≤ vertices) (own : at knots least ≡ least) where
  left_among : (a b : ℕ) → Owns (without gone hs) a b → a ≤ vertices
  left_among a b o = owner_among vertices hs a b among (still_owned gone a b hs o)

  rises_end : (ranks : List ℕ)
      → ((b : ℕ) → 1 ≤ b → b ≤ vertices → at knots b ≡ least
      → All (Rises gone stays knots ranks least b) (held_on hs b))
      → (n b : ℕ) → at ranks b < n → 1 ≤ b → b ≤ vertices → at knots b ≡ least
      → EndsWithOwners (without gone hs) b
  rises_end ranks all zero b lt one within same = absurd (omega (arith, lt))
  rises_end ranks all (suc n) b lt one within same =
      Ended b (λ e. absurd (omega (arith, e, one))) (λ a o.
      let l = left_on gone (Rises gone stays knots ranks least b) hs a b (all b one within same)
      o in
      let from = l.source in
      let le_a = left_among a b o in
      let inside : l.handle.from ≤ vertices = omega (arith, from, le_a) in
      subst (EndsWithOwners (without gone hs)) from (elim (l.so l.owner l.other) [
        | inl off ↦ fewer gone hs l.handle.from ((ends l.handle.from inside).0 off)
        | inr x ↦
            let ne = x.0 in
            let less = x.2 in
            rises_end ranks all n l.handle.from (omega (arith, less, lt)) (omega (arith, ne)) inside
            x.1
      ]))

  -- where ranks rise along all owners that are left, the knot ends
  pub all_rise : (ranks : List ℕ)
      → ((b : ℕ) → 1 ≤ b → b ≤ vertices → at knots b ≡ least
      → All (Rises gone stays knots ranks least b) (held_on hs b))
      → EndsWithout vertices hs gone least
  all_rise ranks all a one within keep =
      rises_end ranks all (suc (at ranks a)) a (omega arith) one within
      (knot_label hs vertices knots are least a some le one within keep ∙ own)

  module _ (inside : (h : Holding) → gone h ≡ true → (h.from ≢ 0) × (at knots h.from ≡ least)) where
    abbrev IsOut : ℕ → Type 0
    IsOut a = (a ≡ 0) ⊎ (at knots a ≢ least)

    not_inside : (h : Holding) (a : ℕ) → h.from ≡ a → IsOut a → gone h ≡ true → ⊥
    not_inside h a from (inl z) is = (inside h is).0 (from ∙ z)
    not_inside h a from (inr ne) is = ne (ap (at knots) (sym from) ∙ (inside h is).1)

    still_there : (l : List Holding) (a b : ℕ) → IsOut a → Owns l a b → Owns (without gone l) a b
    still_there [] a b out o = absurd o
    still_there (h ∷ l) a b out (inl o) = go (gone h) refl
      where
        go : (t : Bool) → gone h ≡ t → Owns (cond t (without gone l) (h ∷ without gone l)) a b
        go true is = absurd (not_inside h a o.1 out is)
        go false is = inl o
    still_there (h ∷ l) a b out (inr o) = lift gone h l a b (gone h) (still_there l a b out o)

    -- an owner of a vertex outside of the knot that leads to it is not in the knot
    owner_out : (a y : ℕ) → Owns hs a y → a ≢ 0 → 1 ≤ y → y ≤ vertices → at knots y ≢ least
        → OwnersLead hs y least → at knots a ≢ least
    owner_out a y o ne_a one within out leads e =
        let le_a = owner_among vertices hs a y among o in
        let k = same_knot hs vertices knots are least a some le (omega (arith, ne_a)) le_a
        (e ∙ sym own) in
        out (knot_label hs vertices knots are least y some le one
        within (then_one hs least a y k.0 o, leads) ∙ own)

    pub outer_ends : (y : ℕ) → EndsWithOwners (without gone hs) y → at knots y ≢ least
        → OwnersLead hs y least → y ≤ vertices
        → EndsWithOwners hs y
    outer_ends _ (Ended y ne f) out leads within =
        Ended y ne (λ a o. elim (cases_eq a 0) [
          | inl z ↦ absurd (outside_stays (without gone hs) a z
              (f a (still_there hs a y (inl z) o)))
          | inr ne_a ↦
              let out_a = owner_out a y o ne_a (omega (arith, ne)) within out leads in
              outer_ends a (f a (still_there hs a y (inr out_a) o)) out_a
              (one_then hs a y least o leads) (owner_among vertices hs a y among o)
        ])

    module _ (ring : List ℕ)
        (all : All (λ (b : ℕ). HasHolder gone stays knots ring least (held_on hs b)) ring) where
      holder : (b : ℕ) → IsListed ring b → HasHolder gone stays knots ring least (held_on hs b)
      holder b l = subst (λ (x : ℕ). HasHolder gone stays knots ring least (held_on hs x)) l.2
          (all l.0 0 l.1)

      stuck_stays : (b : ℕ) → EndsWithOwners (without gone hs) b → IsWitness vertices knots least b
          → IsListed ring b → ⊥
      unfolding HasHolder
      stuck_stays _ (Ended b ne f) in_ listed =
          let s = holder b listed in
          let h = handle_listed (held_on hs b) s.0 in
          let o = row_owned gone hs b s.0 s.1 s.2.1 s.2.0 in
          let e = f h.from o in
          let le_h = left_among h.from b o in
          elim s.2.2 [
            | inl z ↦ outside_stays (without gone hs) h.from z e
            | inr more ↦ elim more [
              | inl x ↦ elim (cases_eq h.from 0) [
                | inl z ↦ outside_stays (without gone hs) h.from z e
                | inr ne_h ↦ stuck_stays h.from (f h.from o) (omega (arith, ne_h), le_h, x.0) x.1
              ]
              | inr x ↦
                  let to : OwnersLead hs b least =
                  subst (λ (k : ℕ). OwnersLead hs b k) in_.2 (are.each b in_.0 in_.1).knotted.0 in
                  let ended = outer_ends h.from e x.0
                  (one_then hs h.from b least (still_owned gone h.from b hs o) to) le_h in
                  true≢false (sym x.1 ∙ (ends h.from le_h).1 ended)
            ]
          ]

      -- where each vertex of a ring has a holder, the knot of its first one doesn't end
      pub ring_stays : 0 < length ring → IsWitness vertices knots least (at ring 0)
          → EndsWithout vertices hs gone least → ⊥
      ring_stays some_in w cut =
          let keep = same_knot hs vertices knots are least (at ring 0) some le w.0 w.1
          (w.2 ∙ sym own) in
          stuck_stays (at ring 0) (cut (at ring 0) w.0 w.1 keep) w (0, some_in, refl)
