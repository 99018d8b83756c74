-- Ties, and those of them that are cuts, one more at a time.
use Rattle.std.proofs.Common.{◌≡◌, ℕ, ◌+◌, ◌<◌, ◌==◌, ◌&&◌, Bool, true, false, cond, not, nat_lt}
use Rattle.std.proofs.Common.{List, [], ◌∷◌, ◌++◌, length, take, get_or, refl, sym, subst, arith}
use Rattle.owner_graph.proofs.Prelude.{All, All-push, and_parts, append-nil, AreCuts, at}
use Rattle.owner_graph.proofs.Prelude.{EndsWhenCut, Holding, is_tie, IsAmong, IsTied, KnotsAre}
use Rattle.owner_graph.proofs.Prelude.{ltb-true, marked, NoTies, take_more, ties_by, ◌≤◌}
use Rattle.owner_graph.specs.Ties.{tie}
use Rattle.owner_graph.specs.Ties.AreCuts.{NoCut, OneCut}
use Rattle.owner_graph.proofs.LabelLemmas.{led_among}

-- the least vertex of a vertex's knot is a vertex
pub label_among : (vertices : ℕ) (hs : List Holding) (knots : List ℕ) → All (IsAmong vertices) hs
    → KnotsAre vertices hs knots
    → (b : ℕ) → 1 ≤ b → b ≤ vertices → (1 ≤ at knots b) × (at knots b ≤ vertices)
label_among vertices hs knots all are b some le =
    let l = are.each b some le in
    (l.some, led_among vertices hs b l.knotted.0.0 (at knots b) all le l.knotted.0.1)

tie_in_vertex : (kept : List Bool) (knots : List ℕ) (h : Holding) → is_tie kept knots h ≡ true
    → 1 ≤ h.from
tie_in_vertex kept knots h is =
    let a = h.is_owner in
    let b = nat_lt 0 h.from in
    let c = not (marked kept h.from) in
    let d = at knots h.from == at knots h.to in
    let abc = (and_parts (a && b && c) d is).0 in
    let ab = (and_parts (a && b) c abc).0 in
    let lt = ltb-true 0 h.from (and_parts a b ab).1 in
    omega (arith, lt)

-- what is so of each tie
pub ties_keep : (P : Holding → Type 0) (kept : List Bool) (knots : List ℕ) (h : Holding)
    (old new : List Holding)
    → new ≡ old ++ ties_by kept knots h → (1 ≤ h.from → P (tie knots h)) → All P old → All P new
ties_keep P kept knots h old new is here all =
    subst (All P) (sym is) (go (is_tie kept knots h) (λ e. here (tie_in_vertex kept knots h e)))
  where
    go : (t : Bool) → (t ≡ true → P (tie knots h)) → All P (old ++ cond t (tie knots h ∷ []) [])
    go true some = All-push P old (tie knots h) all (some refl)
    go false some = subst (All P) (sym (append-nil old)) all

-- the knot's least vertex is among the vertices, from 1 on
abbrev pub IsVertex : ℕ → Holding → Type 0
IsVertex vertices h = (1 ≤ h.to) × (h.to ≤ vertices)

-- a handle more
pub tied_more : (vertices : ℕ) (hs : List Holding) (kept : List Bool) (knots : List ℕ)
    → All (IsAmong vertices) hs
    → KnotsAre vertices hs knots → (i : ℕ) (d : Holding) → i < length hs → (old new : List Holding)
    → new ≡ old ++ ties_by kept knots (get_or hs i d) → All (IsVertex vertices) old
    → All (IsAmong vertices) old
    → All (IsTied knots) old → All (IsVertex vertices) new × All (IsAmong vertices) new
    × All (IsTied knots) new
tied_more vertices hs kept knots all are i d lt old new is one two three =
    let h = get_or hs i d in
    let in_vertex = (all i d lt).0 in (
      ties_keep (IsVertex vertices) kept knots h old new is
          (λ some. label_among vertices hs knots all are h.from some in_vertex) one,
      ties_keep (IsAmong vertices) kept knots h old new is
          (λ some. (in_vertex, (label_among vertices hs knots all are h.from some in_vertex).1))
          two,
      ties_keep (IsTied knots) kept knots h old new is (λ some. (some, refl)) three,
    )

module _ (vertices : ℕ) (hs : List Holding) where
  one_more : (ts cs : List Holding) (t : Holding) → AreCuts vertices hs ts cs
      → EndsWhenCut vertices hs t.to t
      → AreCuts vertices hs (ts ++ t ∷ []) (cs ++ t ∷ [])
  one_more _ _ t NoTies is = OneCut t [] [] is NoTies
  one_more _ _ t (OneCut u ts cs was rest) is = OneCut u (ts ++ t ∷ []) (cs ++ t ∷ []) was
      (one_more ts cs t rest is)
  one_more _ _ t (NoCut u ts cs none rest) is = NoCut u (ts ++ t ∷ []) (cs ++ t ∷ []) none
      (one_more ts cs t rest is)

  none_more : (ts cs : List Holding) (t : Holding) → AreCuts vertices hs ts cs
      → (EndsWhenCut vertices hs t.to t → ⊥)
      → AreCuts vertices hs (ts ++ t ∷ []) cs
  none_more _ _ t NoTies none = NoCut t [] [] none NoTies
  none_more _ _ t (OneCut u ts cs was rest) none = OneCut u (ts ++ t ∷ []) cs was
      (none_more ts cs t rest none)
  none_more _ _ t (NoCut u ts cs not rest) none = NoCut u (ts ++ t ∷ []) cs not
      (none_more ts cs t rest none)

  -- a tie more
  pub cut_more : (ts cs cs' : List Holding) (i : ℕ) (d : Holding) → i < length ts
      → AreCuts vertices hs (take i ts) cs
      → cs' ≡ cs ++ get_or ts i d ∷ [] → EndsWhenCut vertices hs (get_or ts i d).to (get_or ts i d)
      → AreCuts vertices hs (take (i + 1) ts) cs'
  cut_more ts cs cs' i d lt so_far e is =
      subst (λ (l : List Holding). AreCuts vertices hs l cs') (sym (take_more ts i d lt))
      (subst (AreCuts vertices hs (take i ts ++ get_or ts i d ∷ [])) (sym e)
      (one_more (take i ts) cs (get_or ts i d) so_far is))

  pub cut_no_more : (ts cs : List Holding) (i : ℕ) (d : Holding) → i < length ts
      → AreCuts vertices hs (take i ts) cs
      → (EndsWhenCut vertices hs (get_or ts i d).to (get_or ts i d) → ⊥)
      → AreCuts vertices hs (take (i + 1) ts) cs
  cut_no_more ts cs i d lt so_far none =
      subst (λ (l : List Holding). AreCuts vertices hs l cs) (sym (take_more ts i d lt))
      (none_more (take i ts) cs (get_or ts i d) so_far none)

-- the label of a tie is a vertex
pub tie_label : (vertices : ℕ) (hs : List Holding) (kept : List Bool) (knots : List ℕ)
    → All (IsAmong vertices) hs → KnotsAre vertices hs knots
    → (h : Holding) → is_tie kept knots h ≡ true → h.from ≤ vertices → (n : ℕ) → n ≡ at knots h.from
    → (1 ≤ n) × (n ≤ vertices)
tie_label vertices hs kept knots all are h is le n e =
    let low = label_among vertices hs knots all are h.from (tie_in_vertex kept knots h is) le in
    (omega (arith, low, e), omega (arith, low, e))
