-- Rounds of a pile, one run of them after another.
use Rattle.std.proofs.Common.{◌≡◌, ℕ, ◌+◌, ◌-◌, ◌<◌, List, [], ◌∷◌, ◌++◌, length, take, IfSome}
use Rattle.std.proofs.Common.{Some, None, Option, MatchOption, option_to_list, sym, refl, ap, ◌∙◌}
use Rattle.std.proofs.Common.{subst, append-nil, arith}
use Rattle.shared_handle.proofs.Prelude.{AreRounds, bag_of, Cleared, DeskNow, Ended, Ending}
use Rattle.shared_handle.proofs.Prelude.{gone_of, IsClearing, Left, Past}
use Rattle.shared_handle.proofs.Prelude.{piled, values_of, with_clear}
use Rattle.shared_handle.proofs.Piles.{next_is}
use Rattle.shared_handle.specs.Piles.{CameLast, IsRound, value_of}
use Rattle.shared_handle.specs.declared.pile.Round.{Round}
use Rattle.shared_handle.specs.declared.pile.Round.TheVariants.{Settled}

-- nothing came off the top of an empty list
pub popped_none : {A : Type 0} (xs ys : List A) (r : Option A) (n m : ℕ) → xs ≡ ys ++ option_to_list r
    → MatchOption r ((n ≡ 0) × (m ≡ 0)) (λ _. m + 1 ≡ n) → ys ≡ take (n - 1) xs → r ≡ None → (xs ≡ ys) × (ys ≡ [])
popped_none xs ys None n m items cases rest is = (items ∙ append-nil ys, rest ∙ ap (λ k. take (k - 1) xs) cases.0)
popped_none xs ys (Some x) n m items cases rest is = absurd (cc is)

module _ {V : Type 0} where
  pub rounds_append : (d e f : DeskNow V) (xs ys zs : List (Ending V)) (rs qs : List (Past V)) → AreRounds d xs rs e ys → AreRounds e ys qs f zs
      → AreRounds d xs (qs ++ rs) f zs
  rounds_append d e f xs ys zs rs [] a b =
      subst (λ l. AreRounds d xs rs f l) (sym b.1) (subst (λ (u : DeskNow V). AreRounds d xs rs u ys) (sym b.0) a)
  rounds_append d e f xs ys zs rs (q ∷ qs) a b = (rounds_append d e q.desk xs ys q.pile rs qs a b.0, b.1)

  value_before : (r : Round V) (xs ys : List V) → value_of r (xs ++ ys) ≡ value_of r xs ++ ys
  value_before Settled xs ys = refl
  value_before (Cleared m gone) xs ys = refl
  value_before (Ended v) xs ys = refl

  pub values_append : (qs rs : List (Past V)) → values_of (qs ++ rs) ≡ values_of qs ++ values_of rs
  values_append [] rs = refl
  values_append (q ∷ qs) rs = ap (value_of q.round) (values_append qs rs) ∙ value_before q.round (values_of qs) (values_of rs)

  -- the values of a run go in front
  pub values_after : (vs : List V) (qs rs : List (Past V)) → values_of qs ≡ vs → values_of (qs ++ rs) ≡ vs ++ values_of rs
  values_after vs qs rs are = values_append qs rs ∙ ap (λ l. l ++ values_of rs) are

  pub came_last : (v : V) (rs : List (Past V)) → CameLast v rs → values_of rs ≡ v ∷ []
  came_last v [] came = absurd came
  came_last v (r ∷ rs) came = ap (λ (q : Round V). value_of q (values_of rs)) came.0 ∙ ap (λ (vs : List V). v ∷ vs) came.1

  -- with a value fewer rounds are left
  pub fewer_left : (result : Option V) (rs : List (Past V)) (left most : ℕ) → MatchOption result (values_of rs ≡ []) (λ v. CameLast v rs)
      → length rs + left ≡ most → IfSome result (λ _. left < most)
  fewer_left None rs left most came are = tt
  fewer_left (Some v) [] left most came are = absurd came
  fewer_left (Some v) (r ∷ rs) left most came are = omega (arith, are)

  -- a member of the one in hand is emptied
  pub clears_in_hand : (d e : DeskNow V) (below zs : List (Ending V)) (x y : Ending V) (left : Left V) → x.cleared < x.members
      → IsClearing d x left e → y ≡ with_clear x → zs ≡ piled (below ++ y ∷ []) left → bag_of e ≡ bag_of d
      → IsRound d (below ++ x ∷ []) (Cleared x.cleared (gone_of left)) e zs
  clears_in_hand d e below zs x y left some clears noted are bag =
      record {
        below = below;
        top = x;
        were = refl;
        next = next_is x some;
        left = left;
        clears = clears;
        told = refl;
        are = are ∙ ap (λ (z : Ending V). piled (below ++ z ∷ []) left) noted;
        bag = bag;
      }
