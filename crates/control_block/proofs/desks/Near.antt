-- An object that the desk may look at, by what its seat knows.
use Rattle.std.proofs.Common.{◌≡◌, ℕ, zero, suc, ◌<◌, List, [], ◌∷◌, slice_index, Option, inl, inr}
use Rattle.std.proofs.Common.{⊎_elim, arith}
use Rattle.control_block.proofs.Prelude.{desk_now, DeskNow, Ends, HasHandle, HoldingInBlock}
use Rattle.control_block.proofs.Prelude.{Inside, IsDesk, IsEnding, IsNearObject, Kind, known}
use Rattle.control_block.proofs.Prelude.{Place, spot, TableId}
use Rattle.control_block.specs.Desks as Desks
use Rattle.control_block.proofs.desks.DeskBags.{holding_in}
use Rattle.control_block.proofs.desks.DeskSteps.{word_inside}
use Rattle.control_block.proofs.desks.OwnEndings.{ends_in}
use Rattle.control_block.proofs.desks.StoreBlocks.{ending_word}

module _ {V : Type 0} where
  pub near_in : (d : Inside V) (y : DeskNow V) (b : ℕ) → IsDesk d → desk_now d ≡ y → Desks.IsNear y b → IsNearObject d.seat.me.0
      ((known d.seat.me.0).latest b) b
  near_in d y b h is near = ⊎_elim
      (λ (t : (k : Kind) × (p : Option Place) × HasHandle y k p b). inl (t.0, t.1, holding_in d y t.0 t.1 b h is t.2))
      (λ (t : (x : V) × IsEnding y b x). inr (ends_in d y b t.0 is t.1)) near

  pub near_word : (d : Inside V) (id : TableId) (b j : ℕ) → IsDesk d → d.seat.table_id ≡ id
      → IsNearObject d.seat.me.0 ((known d.seat.me.0).latest b) b →
      j < 16
      → (0 < b) × (spot b j < id.words)
  near_word d id b j h table near low =
      let v = d.seat.me.0 in ⊎_elim
      (λ (t : (m : Kind) × (p : Option Place) × HoldingInBlock v m ((known v).latest b) p b). word_inside d id t.0 ((known v).latest b) t.1 b j h table
      t.2 low)
      (λ (t : Ends v ((known v).latest b) b). ending_word d id b j h table t low) near

-- four looks tell four fields
pub four_told : (f : List ℕ) (a b c d : ℕ) → a ≡ slice_index f 0 → b ≡ slice_index f 1 → c ≡ slice_index f 2 → d ≡ slice_index f 3
    → (k : ℕ)
    → k < 4 → slice_index (a ∷ b ∷ c ∷ d ∷ []) k ≡ slice_index f k
four_told f a b c d p q r s zero low = p
four_told f a b c d p q r s (suc zero) low = q
four_told f a b c d p q r s (suc (suc zero)) low = r
four_told f a b c d p q r s (suc (suc (suc zero))) low = s
four_told f a b c d p q r s (suc (suc (suc (suc k)))) low = absurd (omega arith)
