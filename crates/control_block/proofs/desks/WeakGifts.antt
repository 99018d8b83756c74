-- What a weak handle may come from, by what the desk knows.
use Rattle.std.proofs.Common.{◌≡◌, ℕ, ◌<◌, true, ◌⊎◌, ◌∷◌, None, Option, sym, subst, inl, inr}
use Rattle.std.proofs.Common.{⊎_elim, arith}
use Rattle.control_block.proofs.Prelude.{Added, blocks_of, desk_now, DeskNow, Ends, entry, Event}
use Rattle.control_block.proofs.Prelude.{HasHandle, HoldingInBlock, Idle, Inside, IsDesk, IsEnding}
use Rattle.control_block.proofs.Prelude.{Kind, known, latest_of, leads, MayShareWeakly, opening_of}
use Rattle.control_block.proofs.Prelude.{Place, place_at, SeatView, spot, state_of, TableId}
use Rattle.control_block.specs.Desks.{MayGiveWeak}
use Rattle.control_block.proofs.desks.DeskBags.{before, block_still, holding_in}
use Rattle.control_block.proofs.desks.DeskSteps.{word_inside}
use Rattle.control_block.proofs.desks.OwnEndings.{ending_after, ends_in}
use Rattle.control_block.proofs.desks.StoreBlocks.{ending_word}

module _ {V : Type 0} where
  pub may_in : (d : Inside V) (y : DeskNow V) (b : ℕ) (q : Option Place) → IsDesk d → desk_now d ≡ y → MayGiveWeak y b q
      → MayShareWeakly d.seat.me.0 ((known d.seat.me.0).latest b) b q
  may_in d y b q h is may = ⊎_elim
      (λ (t : (k : Kind) × (p : Option Place) × HasHandle y k p b × ((q ≡ p) ⊎ (q ≡ place_at b))). inl
      (t.0, t.1, holding_in d y t.0 t.1 b h is t.2, t.3))
      (λ (t : (x : V) × IsEnding y b x × (((state_of y).object (latest_of y b)).enabled ≡ true) × (q ≡ place_at b)). inr (
        ends_in d y b t.0 is t.1,
        subst (λ (z : DeskNow V). ((state_of z).object (latest_of z b)).enabled ≡ true) (sym is) t.2,
        t.3,
      )) may

  pub may_word : (d : Inside V) (id : TableId) (b : ℕ) (q : Option Place) → IsDesk d → d.seat.table_id ≡ id
      → MayShareWeakly d.seat.me.0 ((known d.seat.me.0).latest b) b q → (0 < b) × (spot b 1 < id.words)
  may_word d id b q h table may =
      let v = d.seat.me.0 in ⊎_elim
      (λ (t : (m : Kind) × (p : Option Place) × HoldingInBlock v m ((known v).latest b) p b × ((q ≡ p) ⊎ (q ≡ place_at b))).
      word_inside d id t.0 ((known v).latest b) t.1 b 1 h table t.2 (omega arith))
      (λ (t : Ends v ((known v).latest b) b × (((known v).object ((known v).latest b)).enabled ≡ true) × (q ≡ place_at b)).
      ending_word d id b 1 h table t.0 (omega arith)) may

  pub may_block : (d : Inside V) (w : SeatView V) (e : Event V) (h : IsDesk d) (a : Added d.seat.me.0 Idle None e w) (b : ℕ) (q : Option Place)
      → MayShareWeakly d.seat.me.0 ((known d.seat.me.0).latest b) b q
      → blocks_of (leads (opening_of d.seat.me.0.shape) (entry d.seat.me.0.view.name e ∷ before d w e h a)) ((known d.seat.me.0).latest b) ≡ b
  may_block d w e h a b q may =
      let v = d.seat.me.0 in ⊎_elim
      (λ (t : (m : Kind) × (p : Option Place) × HoldingInBlock v m ((known v).latest b) p b × ((q ≡ p) ⊎ (q ≡ place_at b))).
      block_still d w e h a t.0 ((known v).latest b) t.1 b t.2)
      (λ (t : Ends v ((known v).latest b) b × (((known v).object ((known v).latest b)).enabled ≡ true) × (q ≡ place_at b)).
      ending_after d w e h a b t.0) may
