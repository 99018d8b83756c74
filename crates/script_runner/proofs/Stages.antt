-- How far an object that ends is, and what lies on a pile.
use Rattle.std.proofs.Common.{◌≡◌, ℕ, ◌<◌, List, [], ◌∷◌, ◌++◌, length, Some, Option, refl, ap, arith}
use Rattle.script_runner.proofs.Prelude.{AllEnd, Block, ClearsOf, DeskNow, HasScriptMembers, IsClearing}
use Rattle.script_runner.proofs.Prelude.{IsGone, IsLeft, Kind, Place}
use Rattle.control_word.specs.State.{kind_of_member}
use Rattle.control_word.specs.declared.model.handle.Kind.TheVariants as kind
use Rattle.shared_handle.proofs.Piles.{next_left}
use Rattle.shared_handle.specs.Endings.{EndsInHand, IsUncleared, IsAllClear}
use Rattle.shared_handle.specs.Piles.{next_member}
use Rattle.shared_handle.specs.declared.endings.Ending as pile
use Rattle.shared_handle.specs.declared.endings.Left.TheVariants as left
use Rattle.shared_handle.specs.declared.endings.Left.{Left}

abbrev pub first_or : {A : Type 0} → A → List A → A
first_or a [] = a
first_or a (b ∷ l) = b

abbrev pub tail_of : {A : Type 0} → List A → List A
tail_of [] = []
tail_of (b ∷ l) = l

-- the last elements of two lists that are one, and what is before them
pub last_same : {A : Type 0} (xs ys : List A) (x y : A) → xs ++ x ∷ [] ≡ ys ++ y ∷ [] → (xs ≡ ys) × (x ≡ y)
last_same [] [] x y e = (refl, ap (first_or x) e)
last_same [] (z ∷ []) x y e = let n = ap length e in absurd (omega (arith, n))
last_same [] (z ∷ w ∷ ys) x y e = let n = ap length e in absurd (omega (arith, n))
last_same (z ∷ []) [] x y e = let n = ap length e in absurd (omega (arith, n))
last_same (z ∷ w ∷ xs) [] x y e = let n = ap length e in absurd (omega (arith, n))
last_same (z ∷ xs) (w ∷ ys) x y e =
    let t = last_same xs ys x y (ap tail_of e) in
    (λ i. ap (first_or z) e i ∷ t.0 i, t.1)

pub some_last : {A : Type 0} (xs : List A) (x : A) → [] ≡ xs ++ x ∷ [] → ⊥
some_last [] x e = absurd cc
some_last (y ∷ xs) x e = absurd cc

module _ {V : Type 0} where
  pub ends_last : (d : DeskNow V) (below : List (pile.Ending V)) (top : pile.Ending V) → AllEnd d (below ++ top ∷ []) → EndsInHand d top
  ends_last d [] top all = all.0
  ends_last d (x ∷ below) top all = ends_last d below top all.2

  -- with a script's members it has three
  pub three_members : (d : DeskNow V) (x : pile.Ending V) → HasScriptMembers d.shape → EndsInHand d x → x.members ≡ 3
  three_members d x script ends = let a = script.0 in let b = script.1 in let c = ends.shape in omega (arith, a, b, c)

  -- and its next one is among these
  pub next_low : (d : DeskNow V) (x : pile.Ending V) (m : ℕ) → HasScriptMembers d.shape → EndsInHand d x → next_member x ≡ Some m → x.cleared < 3
  next_low d x m script ends next =
      let three = three_members d x script ends in let low = (next_left x m next).1 in omega (arith, low, three)

  -- what begins to end has no member cleared
  abbrev pub IsStarting : Left V → Type 0
  IsStarting left.Empty = Unit {0}
  IsStarting left.Others = Unit {0}
  IsStarting (left.Last x) = IsUncleared x

  pub left_starts : (d e : DeskNow V) (b : Option Block) (p : Option Place) (y : Left V) → IsLeft d b p y e → IsStarting y
  left_starts d e b p left.Empty leaves = tt
  left_starts d e b p left.Others leaves = tt
  left_starts d e b p (left.Last x) leaves = leaves.3

  pub gone_starts : (b : Option Block) (y : Left V) → IsGone b y → IsStarting y
  gone_starts b left.Empty gone = tt
  gone_starts b left.Others gone = tt
  gone_starts b (left.Last x) gone = absurd gone

  clears_starts : (k : Kind) (d e : DeskNow V) (x : pile.Ending V) (m : ℕ) (y : Left V) → ClearsOf k d x m y e → IsStarting y
  clears_starts kind.Owner d e x m y c = left_starts _ _ _ _ y c.0.leaves
  clears_starts kind.Weak d e x m y c = gone_starts _ y c.told

  pub clearing_starts : (d e : DeskNow V) (x : pile.Ending V) (y : Left V) → IsClearing d x y e → IsStarting y
  clearing_starts d e x y c = clears_starts (kind_of_member d.shape.owners x.cleared) d e x x.cleared y c

  -- an object without a member left
  pub all_clear : (d : DeskNow V) (x : pile.Ending V) (j : ℕ) → HasScriptMembers d.shape → EndsInHand d x → x.cleared ≡ j → IsAllClear x → j ≡ 3
  all_clear d x j script ends at clear =
      let three = three_members d x script ends in omega (arith, at, clear, three)
