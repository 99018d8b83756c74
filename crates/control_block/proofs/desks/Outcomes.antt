-- What a desk has after a call with one event.
use Rattle.std.proofs.Common.{◌≡◌, ℕ, None, ap, ◌∙◌}
use Rattle.control_block.proofs.Prelude.{Added, after, bag_of, desk_now, DeskNow, Event, Idle}
use Rattle.control_block.proofs.Prelude.{Inside, IsDesk, leads, opening_of, SeatView, State}
use Rattle.control_block.proofs.Prelude.{TableId}
use Rattle.control_block.specs.Outcomes.{Outcome}
use Rattle.control_block.proofs.desks.DeskBags.{IsCalm, bag_stays, before, keeps_quietly, now_of}

module _ {V : Type 0} where
  -- of one that moves nothing
  pub stays : (d : Inside V) (w : SeatView V) (e : Event V) (h : IsDesk d) (a : Added d.seat.me.0 Idle None e w) (id : TableId) (y : DeskNow V)
      → desk_now d ≡ y → id ≡ d.seat.table_id → IsCalm e → ((s : State) (x : ℕ) → (after s x e).hands ≡ s.hands)
      → ((s : State) (x : ℕ) → (after s x e).stores ≡ s.stores) → ((s : State) (x : ℕ) → (after s x e).allowance ≡ s.allowance)
      → Outcome y (bag_of y) y.held (now_of id w d.held)
  stays d w e h a id y is table quiet hands stores allowances =
      record {
        bag = bag_stays d w e h a (hands (leads (opening_of d.seat.me.0.shape) (before d w e h a)) d.seat.me.0.view.name) ∙ ap bag_of is;
        held = ap (λ z. z.held) is;
        keeps = keeps_quietly d w e h a id d.held y is table quiet stores allowances;
      }
