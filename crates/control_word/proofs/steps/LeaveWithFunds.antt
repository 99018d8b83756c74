-- A handle that came out of a cell leaves by the step that gives its funds back.
use Rattle.std.proofs.Common.{ℕ, Some, Option, subst}
use Rattle.control_word.proofs.Prelude.{counts, Fits, handle, Has, held, Kind, me, Owner, Paying}
use Rattle.control_word.proofs.Prelude.{Place, Point, Ready, state, value, Weak}
use Rattle.control_word.proofs.steps.Leave.{settled_leave}
use Rattle.control_word.proofs.steps.WeakLeave.{settled_weak_leave}
use Rattle.control_word.proofs.words.Debts.{paying_out}
use Rattle.control_word.specs.CellSteps.{LeavesWithFunds, WeakLeavesWithFunds}

module _ {V : Type 0} where
  -- a desk that has funds out has the handle that they are for
  in_bag : (at : Point V) (k : Kind) (o f : ℕ) (p : Option Place) → Ready at (Paying k o p (counts at k o) f 0)
      → Has (held (me at) (handle k (Some o) p)) (state at).hands
  in_bag at k o f p ready =
      let fits : Fits at.words (state at) (value at.opening at.history) (me at) (Paying k o p (counts at k o) f 0) =
      subst (Fits at.words (state at) (value at.opening at.history) (me at)) ready.pending
      (ready.stands.team.seated at.seat at.view ready.seated ready.awake).fits in fits.0

  pub leaves_with_funds : LeavesWithFunds V
  leaves_with_funds at o f p ready = settled_leave at.opening at.words at.views at.history ready.stands at.seat at.view ready.seated ready.awake o f p
      (paying_out at.view.pending Owner o p (counts at Owner o) f ready.pending) (in_bag at Owner o f p ready)

  pub weak_leaves_with_funds : WeakLeavesWithFunds V
  weak_leaves_with_funds at o f p ready = settled_weak_leave at.opening at.words at.views at.history ready.stands at.seat at.view ready.seated ready.awake
      o f p (paying_out at.view.pending Weak o p (counts at Weak o) f ready.pending) (in_bag at Weak o f p ready)
