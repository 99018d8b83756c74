-- A desk's own events, one call after the other.
use Rattle.std.proofs.Common.{◌≡◌, ℕ, Bool, [], ◌∷◌, ◌++◌, Some, None, Option, sym, refl, subst}
use Rattle.shared_handle.proofs.Prelude.{AddsEvent, Block, ClearsOf, DeskNow, Does, Empty, Ending}
use Rattle.shared_handle.proofs.Prelude.{Event, IsClearing, IsLeft, IsParting, Kind, kind_of_member}
use Rattle.shared_handle.proofs.Prelude.{Last, LeavesWeakly, Left, Others, Owner, Place, Weak}
use Rattle.std.proofs.lemmas.List.Elements.{All-append, All-cons, All-nil}
use Rattle.control_block.proofs.Own.{goes_by_call, goes_in_turn}

module _ {V : Type 0} where
  -- own events in a row
  pub does_both : (is : Event V → Type 0) (d e f : DeskNow V) → Does is d e → Does is e f → Does is d f
  does_both is d e f a b =
      record { own = b.own ++ a.own; goes = goes_in_turn d a.own e b.own f a.goes b.goes; all = All-append is b.own a.own b.all a.all }

  pub does_one : (is : Event V → Type 0) (d e : DeskNow V) (x : Event V) → AddsEvent d x e → is x → Does is d e
  does_one is d e x adds p = record { own = x ∷ []; goes = goes_by_call d x e adds; all = All-cons is x [] p (All-nil is) }

  -- only the count of handles changed
  counted : (is : Event V → Type 0) (d e : DeskNow V) (n : ℕ) → e ≡ record d { held = n } → Does is d e
  counted is d e n same =
      subst (Does is d) (sym same)
      record { own = []; goes = record { same = (refl, refl, refl); later = []; seen = refl; mine = refl; legal = λ l. l }; all = All-nil is }

  pub does_none : (is : Event V → Type 0) (d : DeskNow V) → Does is d d
  does_none is d = counted is d d d.held refl

  pub left_does : (d e : DeskNow V) (b : Option Block) (p : Option Place) (left : Left V) → IsLeft d b p left e → Does IsParting d e
  left_does d e b p Empty is = counted IsParting d e _ is.1
  left_does d e b p Others is = does_one IsParting d e _ is.2 tt
  left_does d e b p (Last x) is = does_one IsParting d e _ is.1 tt

  pub weak_does : (d e : DeskNow V) (b : Option Block) (p : Option Place) (v : Bool) → LeavesWeakly d b p v e → Does IsParting d e
  weak_does d e None p v is = counted IsParting d e _ is.0
  weak_does d e (Some b) p v is = does_one IsParting d e _ is tt

  of_does : (k : Kind) (d e : DeskNow V) (x : Ending V) (m : ℕ) (left : Left V) → ClearsOf k d x m left e → Does IsParting d e
  of_does Owner d e x m left is =
      let c = is.0 in
      does_both IsParting d c.between e (does_one IsParting d c.between _ c.takes.event tt) (left_does c.between e c.block c.place left c.leaves)
  of_does Weak d e x m left c =
      does_both IsParting d c.between e (does_one IsParting d c.between _ c.takes.event tt) (weak_does c.between e c.block c.place c.vacant c.leaves)

  pub clearing_does : (d e : DeskNow V) (x : Ending V) (left : Left V) → IsClearing d x left e → Does IsParting d e
  clearing_does d e x left is = of_does (kind_of_member d.shape.owners x.cleared) d e x x.cleared left is
