-- What a desk saw without owner stays so, and its locks of it give none.
use Rattle.std.proofs.Common.{◌≡◌, ℕ, Bool, false, not, ◌++◌, Some, None, Option, sym, refl, ap}
use Rattle.std.proofs.Common.{◌∙◌, subst, eq-eqb}
use Rattle.control_block.proofs.Prelude.{Added, desk_now, DeskNow, handle, HasHandle, Idle, Inside}
use Rattle.control_block.proofs.Prelude.{IsDesk, IsLegal, known, latest_of, leads, Lock, on_latest}
use Rattle.control_block.proofs.Prelude.{opening_of, Place, SeatView, state_of, Weak}
use Rattle.control_word.proofs.history.Given.{stays_expired}
use Rattle.control_word.specs.State.{count}
use Rattle.control_block.proofs.desks.DeskBags.{holding_in}

module _ {V : Type 0} where
  pub none_after : (d : Inside V) (e : DeskNow V) (w : SeatView V) (p : Option Place) (b : ℕ) (got : Bool) → IsDesk d → desk_now d ≡ e
      → HasHandle e Weak p b → Added d.seat.me.0 Idle None (Lock (on_latest (desk_now d) Weak p b) got) w
      → count (state_of e) (latest_of e b) ≡ 0 → got ≡ false
  none_after d e w p b got h is has a none =
      let v = d.seat.me.0 in let z = opening_of v.shape in let o = (known v).latest b in
      let legal = subst (IsLegal z) (ap (λ (u : SeatView V). u.view.seen) a.now) a.legal in
      let mine = holding_in d e Weak p b h is has in
      let first = subst (λ (y : DeskNow V). count (state_of y) (latest_of y b) ≡ 0) (sym is) none in
      let still = stays_expired z a.between v.view.seen legal.0 v.view.name (handle Weak (Some o) p) (mine.has, refl, refl) first in
      legal.1.asks.1 ∙ ap not (eq-eqb (count (leads z (a.between ++ v.view.seen)) o) 0 still)
