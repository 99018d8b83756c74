-- Which block becomes vacant.
use Rattle.std.proofs.Common.{◌≡◌, ℕ, ◌<◌, ◌≤◌, Option, sym, ap, ◌∙◌, arith}
use Rattle.control_block.proofs.Prelude.{Ends, Event, held_made, HoldingInBlock, Inside, IsDesk}
use Rattle.control_block.proofs.Prelude.{IsDeskWith, known, opening_of, Place, SeatView, sound}
use Rattle.control_block.proofs.Prelude.{spot, TableId, Weak}
use Rattle.control_block.proofs.desks.DeskSteps.{Came}
use Rattle.control_block.proofs.desks.OwnEndings.{ends_inside}

module _ {V : Type 0} where
  pub weak_block : {n' : ℕ} (d : Inside V) (w : SeatView V) (e : Event V) (c : Came d.seat.me.0 e w) (o : ℕ) (p : Option Place) (b : ℕ) → IsDeskWith n' d
      → HoldingInBlock d.seat.me.0 Weak o p b → (c.state.object o).block ≡ b
  weak_block d w e c o p b h holds =
      let v = d.seat.me.0 in let z = opening_of v.shape in
      c.blocks o (held_made z (known v) v.view.name o Weak p (sound z v.view.seen h.legal) holds.has) ∙ holds.there

  pub finish_block : (d : Inside V) (w : SeatView V) (e : Event V) (c : Came d.seat.me.0 e w) (b : ℕ) → IsDesk d
      → Ends d.seat.me.0 ((known d.seat.me.0).latest b) b → (c.state.object ((known d.seat.me.0).latest b)).block ≡ b
  finish_block d w e c b h ends =
      let v = d.seat.me.0 in let z = opening_of v.shape in
      c.blocks ((known v).latest b) ((sound z v.view.seen h.legal).latest_made b) ∙ (ends_inside d b h ends).0

  pub ending_word : (d : Inside V) (id : TableId) (b j : ℕ) → IsDesk d → d.seat.table_id ≡ id → Ends d.seat.me.0 ((known d.seat.me.0).latest b) b
      → j < 16 → (0 < b) × (spot b j < id.words)
  ending_word d id b j h table ends low =
      let inside = (ends_inside d b h ends).1 in let words = ap (λ y. y.words) (sym table) ∙ h.sized.words in
      let l0 = inside.0 in let l1 = inside.1 in (omega arith, omega arith)

  pub ending_slot : (d : Inside V) (id : TableId) (b : ℕ) → IsDesk d → d.seat.table_id ≡ id → Ends d.seat.me.0 ((known d.seat.me.0).latest b) b
      → b ≤ id.slots
  ending_slot d id b h table ends =
      let inside = (ends_inside d b h ends).1 in let slots = ap (λ y. y.slots) (sym table) ∙ h.sized.slots in let l1 = inside.1 in omega arith
