-- Labels that pass their check are the least vertices of knots.
use Rattle.std.proofs.Common.{◌≡◌, ◌≢◌, inl, inr, ◌⊎◌, ℕ, List, [], ◌∷◌, ◌++◌, refl, sym, subst}
use Rattle.std.proofs.Common.{◌∙◌, arith}
use Rattle.owner_graph.proofs.Prelude.{All, All-head, All-tail, AreInner, AreRanked, at, Down}
use Rattle.owner_graph.proofs.Prelude.{Holding, InnerStep, IsAmong, IsLeast, IsOwnerPath}
use Rattle.owner_graph.proofs.Prelude.{OwnersLead, Owns, Up, Within, ◌≤◌}
use Rattle.owner_graph.proofs.Backwards.{and_on}

-- what is owned is among the vertices
pub owned_among : (vertices : ℕ) (hs : List Holding) (a b : ℕ) → All (IsAmong vertices) hs
    → Owns hs a b → b ≤ vertices
owned_among vertices [] a b all o = absurd o
owned_among vertices (h ∷ hs) a b all (inl o) =
    subst (λ (x : ℕ). x ≤ vertices) o.2 (All-head (IsAmong vertices) h hs all).1
owned_among vertices (h ∷ hs) a b all (inr o) = owned_among vertices hs a b
    (All-tail (IsAmong vertices) h hs all) o

pub led_among : (vertices : ℕ) (hs : List Holding) (a : ℕ) (path : List ℕ) (b : ℕ)
    → All (IsAmong vertices) hs → a ≤ vertices
    → IsOwnerPath hs a path b → b ≤ vertices
led_among vertices hs a [] b all le e = subst (λ (x : ℕ). x ≤ vertices) e le
led_among vertices hs a (x ∷ xs) b all le p =
    led_among vertices hs x xs b all (owned_among vertices hs a x all p.0) p.1

module _ (hs : List Holding) where
  -- from a vertex on, ranks never fall
  pub risen : (ranks : List ℕ) → AreRanked hs ranks → (a : ℕ) (path : List ℕ) (b : ℕ) → a ≢ 0
      → IsOwnerPath hs a path b
      → at ranks a ≤ at ranks b
  risen ranks ranked a [] b ne e = subst (λ (x : ℕ). at ranks a ≤ at ranks x) e (omega arith)
  risen ranks ranked a (x ∷ xs) b ne p =
      let here = ranked a x p.0 in
      let one = here.1 ne in
      let more = risen ranks ranked x xs b here.0 p.1 in
      omega (arith, one, more)

  pub then_one : (a x b : ℕ) → OwnersLead hs a x → Owns hs x b → OwnersLead hs a b
  then_one a x b h o = (h.0 ++ b ∷ [], and_on hs a x b h.0 h.1 o)

  pub one_then : (a x b : ℕ) → Owns hs a x → OwnersLead hs x b → OwnersLead hs a b
  one_then a x b o h = (x ∷ h.0, (o, h.1))

  module _ (labels : List ℕ) (steps : List Holding) (inner : AreInner hs labels steps) where
    abbrev pub FromLabel : ℕ → Type 0
    FromLabel x = (x ≡ 0) ⊎ ((x ≢ 0) × OwnersLead hs (at labels x) x)

    down : (x y : ℕ) → FromLabel x → InnerStep hs labels x y → FromLabel y
    down x y f (Down is ne own) = inr (
      ne,
      subst (λ (l : ℕ). OwnersLead hs l y) (sym own)
          ([], refl),
    )
    down x y f (Up ne is own) = inl is
    down x y (inl is) (Within ne one same o) = absurd (ne is)
    down x y (inr f) (Within ne one same o) = inr (
      one,
      subst (λ (l : ℕ). OwnersLead hs l y) same
          (then_one (at labels x) x y f.1 o),
    )

    pub from_label : (a : ℕ) (path : List ℕ) (b : ℕ) → FromLabel a → IsOwnerPath steps a path b
        → FromLabel b
    from_label a [] b f e = subst FromLabel e f
    from_label a (x ∷ xs) b f p = from_label x xs b (down a x f (inner a x p.0)) p.1

    abbrev pub ToLabel : ℕ → Type 0
    ToLabel x = (x ≡ 0) ⊎ OwnersLead hs x (at labels x)

    up : (x y : ℕ) → ToLabel y → InnerStep hs labels x y → ToLabel x
    up x y f (Down is ne own) = inl is
    up x y f (Up ne is own) = inr (subst (λ (l : ℕ). OwnersLead hs x l) (sym own) ([], refl))
    up x y (inl is) (Within ne one same o) = absurd (one is)
    up x y (inr f) (Within ne one same o) = inr (subst (λ (l : ℕ). OwnersLead hs x l) (sym same)
        (one_then x y (at labels y) o f))

    pub to_label : (a : ℕ) (path : List ℕ) (b : ℕ) → b ≡ 0 → IsOwnerPath steps a path b → ToLabel a
    to_label a [] b zero_ e = inl (e ∙ zero_)
    to_label a (x ∷ xs) b zero_ p = up a x (to_label x xs b zero_ p.1) (inner a x p.0)

    some_from : (b : ℕ) → b ≢ 0 → FromLabel b → OwnersLead hs (at labels b) b
    some_from b ne (inl is) = absurd (ne is)
    some_from b ne (inr f) = f.1

    some_to : (b : ℕ) → b ≢ 0 → ToLabel b → OwnersLead hs b (at labels b)
    some_to b ne (inl is) = absurd (ne is)
    some_to b ne (inr f) = f

    -- labels that are reached both ways, and that ranks tell apart, are the least of knots
    pub is_least : (vertices : ℕ) (ranks : List ℕ) → All (IsAmong vertices) hs → AreRanked hs ranks
        → ((a b : ℕ) → a ≤ vertices → b ≤ vertices → at ranks a ≡ at ranks b
        → at labels a ≡ at labels b)
        → ((b : ℕ) → 1 ≤ b → b ≤ vertices → (1 ≤ at labels b) × (at labels b ≤ b))
        → ((b : ℕ) → 1 ≤ b → b ≤ vertices → OwnersLead steps 0 b)
        → ((b : ℕ) → 1 ≤ b → b ≤ vertices → OwnersLead steps b 0)
        → (b : ℕ) → 1 ≤ b → b ≤ vertices → IsLeast hs b (at labels b)
    is_least vertices ranks all ranked alike low forth back b some within =
        let ne : b ≢ 0 = λ e. absurd (omega (arith, e, some)) in
        let f = forth b some within in
        let g = back b some within in record {
          some = (low b some within).0;
          knotted = (
            some_to b ne (to_label b g.0 0 refl g.1),
            some_from b ne (from_label 0 f.0 b (inl refl) f.1),
          );
          first = λ a one both.
              let le = led_among vertices hs b both.0.0 a all within both.0.1 in
              let nea : a ≢ 0 = λ e. absurd (omega (arith, e, one)) in
              let r1 = risen ranks ranked b both.0.0 a ne both.0.1 in
              let r2 = risen ranks ranked a both.1.0 b nea both.1.1 in
              let same = alike b a within le (omega (arith, r1, r2)) in
              let lw = (low a one le).1 in
              omega (arith, same, lw);
        }
