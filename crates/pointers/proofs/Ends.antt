-- An owner's end that hands out the value.
use Rattle.std.proofs.Common.{◌≡◌, ℕ, zero, suc, List, [], ◌∷◌, ◌++◌, Some, None, Option, sym, ap, ◌∙◌, subst}
use Rattle.std.specs.Prelude.{IfNone, IfSome}
use Rattle.pointers.proofs.Prelude.{bag_of, Block, DeskNow, Ending, handle, Has, Later, Left, Place}
use Rattle.pointers.proofs.Later.{by_event, by_none, later_then}
use Rattle.pointers.proofs.Rounds.{clearing}
use Rattle.pointers.specs.Ends.{EndsOwner}
use Rattle.shared_handle.specs.Piles.{ClearsInTurn, Drops, EndsTop, gone_of, OffPile, piled}
use Rattle.shared_handle.specs.declared.endings.Left.TheVariants as left
use Rattle.shared_handle.specs.declared.pile.Gone.{Gone}
use Rattle.shared_handle.specs.declared.pile.Gone.TheVariants.{Last}

never_empty : {A : Type 0} (xs : List A) (y : A) → xs ++ y ∷ [] ≡ [] → ⊥
never_empty [] y e = cc
never_empty (x ∷ xs) y e = cc

module _ {V : Type 0} where
  bag_clear : (n : ℕ) (a c : OffPile V) → ClearsInTurn n a c → bag_of c.desk ≡ bag_of a.desk
  bag_clear zero a c is = ap (λ (x : OffPile V). bag_of x.desk) is
  bag_clear (suc n) a c is = is.2.bag ∙ bag_clear n a is.0 is.1

  has_still : (n : ℕ) (a c : OffPile V) → ClearsInTurn n a c → Later a.desk c.desk
  has_still zero a c is = subst (λ (x : OffPile V). Later a.desk x.desk) (sym is) (by_none a.desk)
  has_still (suc n) a c is =
      later_then a.desk is.0.desk c.desk (λ k p b has. subst (Has (handle k (Some b) p)) (sym (bag_clear n a is.0 is.1)) has) (has_still n a is.0 is.1)
      (clearing is.0.desk is.0.ending is.2.left c.desk is.2.clears)

  by_ends_top : (d : DeskNow V) (ys : List (Ending V)) (v : V) (e : DeskNow V) (zs : List (Ending V)) → EndsTop d ys v e zs → Later d e
  by_ends_top d ys v e zs is =
      let a : OffPile V = record { desk = d; pile = is.below; ending = is.top } in
      later_then d is.after.desk e (λ k p b has. subst (Has (handle k (Some b) p)) (sym (bag_clear is.many a is.after is.clears)) has)
      (has_still is.many a is.after is.clears) (by_event is.after.desk _ e is.finish.event)

  -- the desk goes on by the end of what lies on top of its pile
  pub by_end_next : (d : DeskNow V) (ys : List (Ending V)) (value : Option V) (e : DeskNow V) (zs : List (Ending V))
      → IfNone value ((ys ≡ []) × (zs ≡ []) × (e ≡ d)) → IfSome value (λ v. EndsTop d ys v e zs) → Later d e
  by_end_next d ys None e zs none some = subst (Later d) (sym none.2) (by_none d)
  by_end_next d ys (Some v) e zs none some = by_ends_top d ys v e zs some

  -- a last owner leaves something to end
  some_left : (xs ys : List (Ending V)) (l : Left V) → Last ≡ gone_of l → ys ≡ piled xs l → ys ≡ [] → ⊥
  some_left xs ys left.Empty told are none = cc
  some_left xs ys left.Others told are none = cc
  some_left xs ys (left.Last y) told are none = never_empty xs y (sym are ∙ none)

  with_value : (d : DeskNow V) (xs : List (Ending V)) (b : Option Block) (p : Option Place) (m : DeskNow V) (ys : List (Ending V)) (value : Option V)
      (e : DeskNow V) (zs : List (Ending V)) → Drops d xs b p Last m ys → IfNone value (ys ≡ []) → IfSome value (λ v. EndsTop m ys v e zs)
      → EndsOwner d b p value e
  with_value d xs b p m ys None e zs drops none some = absurd (some_left xs ys drops.left drops.told drops.are none)
  with_value d xs b p m ys (Some v) e zs drops none some =
      record { endings = xs; gone = Last; left = m; piled = ys; drops = drops; ends = (zs, some) }

  -- the last owner left, and what lay on top then ended
  pub ends_last : (d : DeskNow V) (xs : List (Ending V)) (b : Option Block) (p : Option Place) (gone : Gone) (m n : DeskNow V) (ys : List (Ending V))
      (value : Option V) (e : DeskNow V) (zs : List (Ending V)) → Drops d xs b p gone m ys → gone ≡ Last → m ≡ n → IfNone value (ys ≡ [])
      → IfSome value (λ v. EndsTop n ys v e zs) → EndsOwner d b p value e
  ends_last d xs b p gone m n ys value e zs drops last same none some =
      with_value d xs b p n ys value e zs
      (subst (λ (y : DeskNow V). Drops d xs b p Last y ys) same (subst (λ (g : Gone). Drops d xs b p g m ys) last drops)) none some
