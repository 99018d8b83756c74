-- Each block that a desk comes upon is one that a domain may have.
use Rattle.std.proofs.Common.{◌≡◌, ℕ, ◌<◌, ◌≤◌, Some, Option, refl, subst, ⊎_elim, arith}
use Rattle.control_block.proofs.Prelude.{Ends, handle, Has, HoldingInBlock, InShape, Inside, IsDesk, IsNearObject}
use Rattle.control_block.proofs.Prelude.{Kind, known, names_an_object, opening_of, Place, sound, stored}
use Rattle.control_block.proofs.desks.OwnEndings.{ends_inside}
use Rattle.control_word.specs.Limits.{most_blocks}

module _ {V : Type 0} (d : Inside V) (h : IsDesk d) where
  -- of a handle that it has, or an object that ends with it
  pub near_block : (b : ℕ) → IsNearObject d.seat.me.0 ((known d.seat.me.0).latest b) b → (0 < b) × (b ≤ most_blocks)
  near_block b near =
      let v = d.seat.me.0 in let z = opening_of v.shape in let most = h.limits.blocks in ⊎_elim
      (λ (t : (m : Kind) × (p : Option Place) × HoldingInBlock v m ((known v).latest b) p b).
      let n = names_an_object z v.view.seen h.legal v.view.name t.0 (handle t.0 (Some ((known v).latest b)) t.1) (t.2.has, refl, refl) in
      let inside = subst (InShape z) t.2.there n.3 in let l0 = inside.0 in let l1 = inside.1 in (omega arith, omega arith))
      (λ (t : Ends v ((known v).latest b) b).
      let inside = (ends_inside d b h t).1 in let l0 = inside.0 in let l1 = inside.1 in (omega arith, omega arith)) near

  -- of its store
  pub stored_block : (b : ℕ) → Has (stored d.seat.me.0.view.name b) (known d.seat.me.0).stores → (0 < b) × (b ≤ most_blocks)
  stored_block b has =
      let v = d.seat.me.0 in let z = opening_of v.shape in let most = h.limits.blocks in
      let inside = ((sound z v.view.seen h.legal).stores v.view.name b has).1 in
      let l0 = inside.0 in let l1 = inside.1 in (omega arith, omega arith)
