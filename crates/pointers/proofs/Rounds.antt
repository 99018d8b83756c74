-- A desk goes on by rounds of its pile.
use Rattle.std.proofs.Common.{◌≡◌, ℕ, List, [], ◌∷◌, Some, Option, sym, ap, ◌∙◌, subst}
use Rattle.pointers.proofs.Prelude.{bag_of, Block, ClearMember, DeskNow, Ending, handle, handle_in}
use Rattle.pointers.proofs.Prelude.{Has, Kind, Later, latest_of, Left, Owner, Place, Weak}
use Rattle.control_block.specs.Clearing.{TakesOut}
use Rattle.control_word.specs.State.{kind_of_member}
use Rattle.shared_handle.specs.Endings.{ClearsOf, IsClearing}
use Rattle.shared_handle.specs.Piles.{AreRounds, IsRound, Past}
use Rattle.shared_handle.specs.declared.pile.Round.{Round}
use Rattle.shared_handle.specs.declared.pile.Round.TheVariants.{Cleared, Ended, Settled}
use Rattle.pointers.proofs.Calls.{by_left, by_weak_leave}
use Rattle.pointers.proofs.Gains.{handle_on, has_cleared}
use Rattle.pointers.proofs.Later.{by_event, by_none, later_then}

module _ {V : Type 0} where
  -- what a member held came out, and left
  cleared : (d m e : DeskNow V) (b i : ℕ) (k : Kind) (c : Option Block) (p : Option Place) → TakesOut d b i k c p m → Later m e → Later d e
  cleared d m e b i k c p takes left =
      let x = ClearMember (latest_of d b) i (handle_in m k c p) in
      later_then d m e (handle_on d x m (λ s n y has. has_cleared (latest_of d b) i (handle_in m k c p) s n y has) takes.event)
      (by_event d x m takes.event) left

  of_kind : (k : Kind) (d : DeskNow V) (x : Ending V) (m : ℕ) (left : Left V) (e : DeskNow V) → ClearsOf k d x m left e → Later d e
  of_kind Owner d x m left e is =
      let c = is.0 in cleared d c.between e x.block.0 m Owner c.block c.place c.takes (by_left c.between c.block c.place left e c.leaves)
  of_kind Weak d x m left e c = cleared d c.between e x.block.0 m Weak c.block c.place c.takes (by_weak_leave c.between c.block c.place c.vacant e c.leaves)

  pub clearing : (d : DeskNow V) (x : Ending V) (left : Left V) (e : DeskNow V) → IsClearing d x left e → Later d e
  clearing d x left e is = of_kind (kind_of_member d.shape.owners x.cleared) d x x.cleared left e is

  round : (d : DeskNow V) (ys : List (Ending V)) (r : Round V) (e : DeskNow V) (zs : List (Ending V)) → IsRound d ys r e zs → Later d e
  round d ys Settled e zs is = subst (Later d) (sym is.2) (by_none d)
  round d ys (Cleared m gone) e zs is = clearing d is.top is.left e is.clears
  round d ys (Ended v) e zs is = by_event d _ e is.finish.event

  bag_kept : (d : DeskNow V) (ys : List (Ending V)) (r : Round V) (e : DeskNow V) (zs : List (Ending V)) → IsRound d ys r e zs → bag_of e ≡ bag_of d
  bag_kept d ys Settled e zs is = ap bag_of is.2
  bag_kept d ys (Cleared m gone) e zs is = is.bag
  bag_kept d ys (Ended v) e zs is = is.bag

  bags_kept : (d : DeskNow V) (ys : List (Ending V)) (rs : List (Past V)) (e : DeskNow V) (zs : List (Ending V)) → AreRounds d ys rs e zs
      → bag_of e ≡ bag_of d
  bags_kept d ys [] e zs is = ap bag_of is.0
  bags_kept d ys (r ∷ rs) e zs is = bag_kept r.desk r.pile r.round e zs is.1 ∙ bags_kept d ys rs r.desk r.pile is.0

  -- rounds in a row, with the handles that the desk has all along
  pub by_rounds : (d : DeskNow V) (ys : List (Ending V)) (rs : List (Past V)) (e : DeskNow V) (zs : List (Ending V)) → AreRounds d ys rs e zs
      → Later d e
  by_rounds d ys [] e zs is = subst (Later d) (sym is.0) (by_none d)
  by_rounds d ys (r ∷ rs) e zs is =
      let bag = bags_kept d ys rs r.desk r.pile is.0 in
      later_then d r.desk e (λ k p b has. subst (Has (handle k (Some b) p)) (sym bag) has) (by_rounds d ys rs r.desk r.pile is.0)
      (round r.desk r.pile r.round e zs is.1)
