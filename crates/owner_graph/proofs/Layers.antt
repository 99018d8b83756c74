-- What is ranked ends.
use Rattle.std.proofs.Common.{◌≡◌, ◌↔◌, inl, inr, ℕ, zero, suc, ◌+◌, ◌<◌, Bool, true, false}
use Rattle.std.proofs.Common.{true≢false, cond, List, [], ◌∷◌, length, refl, sym, subst, ◌∙◌}
use Rattle.std.proofs.Common.{arith}
use Rattle.owner_graph.proofs.Prelude.{All, All-head, All-tail, AllFed, at, Ended, EndsWithOwners}
use Rattle.owner_graph.proofs.Prelude.{Holding, IsAmong, IsFed, marked, Owns, without, ◌≤◌}
use Rattle.owner_graph.specs.Layers.{EndsLater}
use Rattle.owner_graph.proofs.Feeds.{stay_or_end}

-- an owner that is left
pub record Left (gone : Holding → Bool) (P : Holding → ℕ → ℕ → Type 0) (a b : ℕ) : Type 0 where
  pub handle : Holding
  pub other : gone handle ≡ false
  pub owner : handle.is_owner ≡ true
  pub so : P handle a b

-- what is so of all that is listed is so of it
pub left_owner : (gone : Holding → Bool) (P : Holding → ℕ → ℕ → Type 0) (hs : List Holding)
    → All (λ (h : Holding). P h h.from h.to) hs → (a b : ℕ) → Owns (without gone hs) a b
    → Left gone P a b
left_owner gone P [] all a b o = absurd o
left_owner gone P (h ∷ hs) all a b o =
    go (gone h) refl (λ p. left_owner gone P hs (All-tail (λ (x : Holding). P x x.from x.to) h hs
    all) a b p) o
  where
    here : P h h.from h.to
    here = All-head (λ (x : Holding). P x x.from x.to) h hs all

    go : (t : Bool) → gone h ≡ t → (Owns (without gone hs) a b → Left gone P a b)
        → Owns (cond t (without gone hs) (h ∷ without gone hs)) a b → Left gone P a b
    go true is f p = f p
    go false is f (inl p) = record {
      handle = h;
      other = is;
      owner = p.0;
      so = subst (λ (y : ℕ). P h a y) p.2 (subst (λ (x : ℕ). P h x h.to) p.1 here);
    }
    go false is f (inr p) = f p

-- an owner in a, on b, that ends later
abbrev pub Later : (Holding → Bool) → List Bool → List ℕ → Holding → ℕ → ℕ → Type 0
Later gone stays ranks x a b =
    gone x ≡ false → x.is_owner ≡ true → marked stays b ≡ false → (marked stays a ≡ false)
    × (at ranks a < at ranks b)

module _ (gone : Holding → Bool) (hs : List Holding) (stays : List Bool) (ranks : List ℕ)
    (zero_stays : marked stays 0 ≡ true)
    (all : All (EndsLater gone stays ranks) hs) where
  ends_below : (n b : ℕ) → at ranks b < n → marked stays b ≡ false
      → EndsWithOwners (without gone hs) b
  ends_below zero b lt off = absurd (omega (arith, lt))
  ends_below (suc n) b lt off =
      Ended b (λ e. true≢false (sym zero_stays ∙ subst (λ (k : ℕ). marked stays k ≡ false) e off))
      (λ a o.
      let l = left_owner gone (Later gone stays ranks) hs all a b o in
      let next = l.so l.other l.owner off in
      let less = next.1 in
      ends_below n a (omega (arith, less, lt)) next.0)

  pub layers_end : (vertices : ℕ) (fed : List Bool) → All (IsAmong vertices) hs
      → length stays ≡ vertices + 1
      → IsFed (without gone hs) stays fed → AllFed stays fed
      → (b : ℕ) → b ≤ vertices → marked stays b ≡ false ↔ EndsWithOwners (without gone hs) b
  layers_end vertices fed among size is_fed none b le =
      stay_or_end vertices gone hs stays fed among size is_fed
      (λ a _ off. ends_below (suc (at ranks a)) a (omega arith) off) none b le
