-- Paths of owners, the other way round.
use Rattle.std.proofs.Common.{◌≡◌, ◌≢◌, ◌↔◌, inl, inr, ℕ, ◌+◌, ◌==◌, Bool, true, false, List, []}
use Rattle.std.proofs.Common.{◌∷◌, ◌++◌, length, refl, sym, subst, ⊎_elim, arith, eq-eqb, ne_eqb}
use Rattle.owner_graph.proofs.Prelude.{All-cons, All-head, All-nil, All-tail, AreWithin}
use Rattle.owner_graph.proofs.Prelude.{back_edges, cases_eq, cond-false, cond-true, Edge}
use Rattle.owner_graph.proofs.Prelude.{HasVertex, Holding, IsEdgeWithin, IsOwnerPath, IsPath}
use Rattle.owner_graph.proofs.Prelude.{leading, MarksReached, owner_edges, OwnersLead, Owns, Rows}
use Rattle.owner_graph.proofs.Prelude.{slice_index_or, targets, ◌≤◌}
use Rattle.owner_graph.proofs.OwnerLemmas.{owned, owns}

leading_here : (e : Edge) (es : List Edge) (a : ℕ) → e.from ≡ a
    → leading (e ∷ es) a ≡ e.to ∷ leading es a
leading_here e es a same = cond-true (e.from == a) (e.to ∷ leading es a) (leading es a)
    (eq-eqb e.from a same)

leading_else : (e : Edge) (es : List Edge) (a : ℕ) → e.from ≢ a → leading (e ∷ es) a ≡ leading es a
leading_else e es a ne = cond-false (e.from == a) (e.to ∷ leading es a) (leading es a)
    (ne_eqb e.from a ne)

-- the edge is first, or among the others
first_or : (e : Edge) (es : List Edge) (a b : ℕ) → e.from ≡ a → e.to ≡ b
    → HasVertex b (leading (e ∷ es) a)
first_or e es a b from to = subst (HasVertex b) (sym (leading_here e es a from)) (inl (sym to))

later : (e : Edge) (es : List Edge) (a b : ℕ) → HasVertex b (leading es a)
    → HasVertex b (leading (e ∷ es) a)
later e es a b p =
    ⊎_elim (λ (same : e.from ≡ a). subst (HasVertex b) (sym (leading_here e es a same)) (inr p))
    (λ (ne : e.from ≢ a). subst (HasVertex b) (sym (leading_else e es a ne)) p) (cases_eq e.from a)

-- an edge each way
turned : (es : List Edge) (a b : ℕ) → HasVertex b (leading es a)
    → HasVertex a (leading (back_edges es) b)
turned [] a b p = absurd p
turned (e ∷ es) a b p =
    let f : Edge = record { from = e.to; to = e.from } in
    ⊎_elim
    (λ (same : e.from ≡ a).
    ⊎_elim (λ (x : b ≡ e.to). first_or f (back_edges es) b a (sym x) same)
    (λ (q : HasVertex b (leading es a)). later f (back_edges es) b a
    (turned es a b q))
    (subst (HasVertex b) (leading_here e es a same) p))
    (λ (ne : e.from ≢ a). later f (back_edges es) b a
    (turned es a b (subst (HasVertex b) (leading_else e es a ne) p))) (cases_eq e.from a)

returned : (es : List Edge) (a b : ℕ) → HasVertex a (leading (back_edges es) b)
    → HasVertex b (leading es a)
returned [] a b p = absurd p
returned (e ∷ es) a b p =
    let f : Edge = record { from = e.to; to = e.from } in
    ⊎_elim
    (λ (same : e.to ≡ b).
    ⊎_elim (λ (x : a ≡ e.from). first_or e es a b (sym x) same)
    (λ (q : HasVertex a (leading (back_edges es) b)). later e es a b (returned es a b q))
    (subst (HasVertex a) (leading_here f (back_edges es) b same) p))
    (λ (ne : e.to ≢ b). later e es a b
    (returned es a b (subst (HasVertex a) (leading_else f (back_edges es) b ne) p)))
    (cases_eq e.to b)

-- a path and one owner more
pub and_on : (hs : List Holding) (a x b : ℕ) (path : List ℕ) → IsOwnerPath hs a path x → Owns hs x b
    → IsOwnerPath hs a (path ++ b ∷ []) b
and_on hs a x b [] e o = (subst (λ y. Owns hs y b) (sym e) o, refl)
and_on hs a x b (y ∷ ys) p o = (p.0, and_on hs y x b ys p.1 o)

and_back : (g : Rows) (a x b : ℕ) (path : List ℕ) → IsPath g a path x → HasVertex b (targets g x)
    → IsPath g a (path ++ b ∷ []) b
and_back g a x b [] e o = (subst (λ y. HasVertex b (targets g y)) (sym e) o, refl)
and_back g a x b (y ∷ ys) p o = (p.0, and_back g y x b ys p.1 o)

module _ (g : Rows) (hs : List Holding) (rows : (v : ℕ)
    → targets g v ≡ leading (back_edges (owner_edges hs)) v) where
  forward : (b a : ℕ) (path : List ℕ) → IsPath g b path a → OwnersLead hs a b
  forward b a [] e = ([], sym e)
  forward b a (x ∷ xs) p =
      let rest = forward x a xs p.1 in
      let o = owns hs x b (returned (owner_edges hs) x b (subst (HasVertex x) (rows b) p.0)) in
      (rest.0 ++ b ∷ [], and_on hs a x b rest.0 rest.1 o)

  backward : (a b : ℕ) (path : List ℕ) → IsOwnerPath hs a path b → (q : List ℕ) × IsPath g b q a
  backward a b [] e = ([], sym e)
  backward a b (x ∷ xs) p =
      let rest = backward x b xs p.1 in
      let o = subst (HasVertex a) (sym (rows x)) (turned (owner_edges hs) a x (owned hs a x p.0)) in
      (rest.0 ++ a ∷ [], and_back g b x a rest.0 rest.1 o)

  -- what is reached backwards owns
  pub led : (marked : List Bool) (vertices root start : ℕ) → length g ≡ vertices + 1 → root ≡ start
      → MarksReached g root marked
      → (b : ℕ) → b ≤ vertices → slice_index_or marked b false ≡ true ↔ OwnersLead hs b start
  led marked vertices root start size same marks b le =
      subst (λ (a : ℕ). slice_index_or marked b false ≡ true ↔ OwnersLead hs b a) same (
        λ is. let r = (marks.reached b (omega (arith, size, le))).0 is in forward root b r.0 r.1,
        λ k. (marks.reached b (omega (arith, size, le))).1 (backward b root k.0 k.1),
      )

pub within_back : (n : ℕ) (es : List Edge) → AreWithin n es → AreWithin n (back_edges es)
within_back n [] all = All-nil (IsEdgeWithin n)
within_back n (e ∷ es) all =
    let here = All-head (IsEdgeWithin n) e es all in
    All-cons (IsEdgeWithin n) (record { from = e.to; to = e.from }) (back_edges es) (here.1, here.0)
    (within_back n es (All-tail (IsEdgeWithin n) e es all))
