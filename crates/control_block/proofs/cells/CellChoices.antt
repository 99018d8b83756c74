-- What a compare leaves, where it swapped and where it differed.
use Rattle.std.proofs.Common.{◌≡◌, ℕ, ◌+◌, ◌<◌, ◌≤◌, Bool, true, false, cond, not, ◌≢◌, ◌⊎◌, List}
use Rattle.std.proofs.Common.{IfSome, None, Option, refl, subst, inl, inr, arith}
use Rattle.control_block.proofs.Prelude
use Prelude.{after, Block, bool_byte, Cell, Compare, DeskNow, HoldingInBlock, HoldsHandle, Kind}
use Prelude.{known, loses, NumberedHandle, Place, SeatView, State, Swap, without_handle}
use Rattle.control_block.proofs.cells.CellDesks.{in_seat, one}
use Rattle.control_block.proofs.cells.CellTrades.{Trades, compare_trades, differ_trades}
use Rattle.control_block.proofs.words.Hands.{fills_allowance, fills_stores}

-- one handle more is counted where it differed
pub counted_of : (s : Bool) (n : ℕ) → n ≡ bool_byte (not s) → n ≡ cond s 0 1
counted_of true n e = e
counted_of false n e = e

pub fits_of : (s : Bool) (b c : Option Block) (n m held : ℕ) → n + one (cond s b None) ≡ m + one c → m + 1 ≤ held + one b
    → m ≤ held → one c ≤ 1
    → n ≤ held + cond s 0 1
fits_of true b c n m held size fit most few = omega arith
fits_of false b c n m held size fit most few = omega arith

pub few_of : (s : Bool) (b c : Option Block) (n m held : ℕ) → n + one (cond s b None) ≡ m + one c → m + 1 ≤ held + one b
    → m ≤ held → one c ≡ 0
    → n < held + cond s 0 1
few_of true b c n m held size fit most few = omega arith
few_of false b c n m held size fit most few = omega arith

pub within_of : (s : Bool) (held more most : ℕ) → held + more ≤ most → held + more ≢ most → held + cond s 0 1 + more ≤ most
within_of true held more most le ne = omega arith
within_of false held more most le ne = omega arith

pub bag_of_choice : (s : Bool) (k : Kind) (b : Option Block) (p : Option Place) (l : List NumberedHandle)
    → without_handle k (cond s b None) (cond s p None) l ≡ cond s (without_handle k b p l) l
bag_of_choice true k b p l = refl
bag_of_choice false k b p l = refl

module _ {V : Type 0} where
  pub trades_of : (v : SeatView V) (k : Kind) (b : Option Block) (p : Option Place) (c : Cell) (expected new : NumberedHandle) (weak : Bool) → new
      ≡ in_seat v k b p
      → (s : Bool) → Trades {V = V} (λ h. Compare c expected new h s weak) (in_seat v k (cond s b None) (cond s p None))
  trades_of v k b p c expected new weak is true =
      subst (λ (z : NumberedHandle). Trades {V = V} (λ h. Compare c expected new h true weak) z) is (compare_trades V c expected new weak)
  trades_of v k b p c expected new weak is false = differ_trades V c k expected new weak

  pub mine_of : (v : SeatView V) (k : Kind) (b : Option Block) (p : Option Place) (s : Bool) → IfSome b (λ a. HoldingInBlock v k ((known v).latest a.0) p a.0)
      → IfSome (cond s b None) (λ a. HoldingInBlock v k ((known v).latest a.0) (cond s p None) a.0)
  mine_of v k b p true t = t
  mine_of v k b p false t = tt

  pub has_of : (y : DeskNow V) (k : Kind) (b : Option Block) (p : Option Place) (s : Bool) → HoldsHandle y k b p
      → HoldsHandle y k (cond s b None) (cond s p None) ⊎ (cond s b None ≡ None)
  has_of y k b p true t = inl t
  has_of y k b p false t = inr refl

pub swap_stores : (V : Type 0) (c : Cell) (new old : NumberedHandle) (y : State) (d : ℕ) → (after {V = V} y d (Swap c new old)).stores ≡ y.stores
swap_stores V c new old y d = fills_stores c new (loses d new y)

pub swap_allowances : (V : Type 0) (c : Cell) (new old : NumberedHandle) (y : State) (d : ℕ)
    → (after {V = V} y d (Swap c new old)).allowance ≡ y.allowance
swap_allowances V c new old y d = fills_allowance c new (loses d new y)

pub stores_of : (V : Type 0) (c : Cell) (expected new h : NumberedHandle) (weak s : Bool) (y : State) (d : ℕ)
    → (after {V = V} y d (Compare c expected new h s weak)).stores ≡ y.stores
stores_of V c expected new h weak true y d = fills_stores c new (loses d new y)
stores_of V c expected new h weak false y d = refl

pub allowances_of : (V : Type 0) (c : Cell) (expected new h : NumberedHandle) (weak s : Bool) (y : State) (d : ℕ)
    → (after {V = V} y d (Compare c expected new h s weak)).allowance ≡ y.allowance
allowances_of V c expected new h weak true y d = fills_allowance c new (loses d new y)
allowances_of V c expected new h weak false y d = refl
