-- A compare that swaps.
use Rattle.std.proofs.Common.{◌≡◌, ℕ, ◌-◌, Bool, true, false, List, ◌∷◌, set, refl, subst, inl}
use Rattle.std.proofs.Common.{arith}
use Rattle.control_word.proofs.Prelude.{Adds, after, blocks_of, Cell, cell_at, cell_of, cell_word}
use Rattle.control_word.proofs.Prelude.{Compare, Entry, entry, equivalent, get_elem?, HasRoom}
use Rattle.control_word.proofs.Prelude.{InHand, IsOpen, kind_of, leads, me, NumberedHandle}
use Rattle.control_word.proofs.Prelude.{Opening, purse, some, Stands, state, View}
use Rattle.control_word.proofs.history.Legal.{sound}
use Rattle.control_word.proofs.steps.Swap.{exchange_step}
use Rattle.control_word.proofs.words.Banks.{IsKept, open_kept}
use Rattle.control_word.proofs.words.CellWords.{cell_read}
use Rattle.control_word.specs.CellSteps.{CompareSwaps}
use Rattle.control_word.specs.Words.{packed}
use Rattle.control_word.specs.Limits.{cell_funds}

module _ {V : Type 0} where
  module _ (z : Opening) (words : List ℕ) (views : List (View V)) (h : List (Entry V)) (stands : Stands z words views h)
      (i : ℕ) (v : View V) (at : get_elem? views i ≡ some v) (awake : v.spent ≡ false) (c : Cell) (kept : IsKept (leads z h) c) where
    -- a compare that swaps
    pub compare_step : (expected new : NumberedHandle) (weak' : Bool) → IsOpen (leads z h) v.name c → InHand (leads z h) v.name (kind_of (leads z h) c) expected
        → true ≡ equivalent (cell_of (leads z h) c) expected
        → v.pending ≡ purse (blocks_of (leads z h)) new cell_funds → InHand (leads z h) v.name (kind_of (leads z h) c) new
        → let s = leads z h in let k = cell_at z s c in let old = cell_of s c in
        HasRoom (after {V = V} s v.name (Compare c expected new old true weak')) v.name
        → let e = entry v.name (Compare c expected new old true weak') in
        Stands z (set words k (packed (blocks_of s) new)) (set views i (record v {
          pending = purse (blocks_of s) old
              (cell_funds - stands.taken k);
          seen = e ∷ h;
        })) (e ∷ h)
    compare_step expected new weak' open' he same mine hand room =
        exchange_step z words views h stands i v at awake c kept (Compare c expected new (cell_of (leads z h) c) true weak') new tt (
          open',
          he,
          hand,
          refl,
          inl same,
        ) tt refl mine hand room

module _ {V : Type 0} where
  pub compare_swaps : CompareSwaps V
  compare_swaps at c expected new weak' ready same asks room taken found =
      let s = state at in
      let kept = open_kept at.opening s (me at) c (sound at.opening at.history ready.stands.legal) asks.0 in
      let r = cell_read at.opening at.words at.views at.history ready.stands at.seat at.view ready.seated ready.awake c kept in
      let old = cell_of s c in
      let e : ready.stands.taken (cell_word at c) ≡ taken = omega arith in
      subst (λ t. Adds at (cell_word at c) (packed (blocks_of s) new) (Compare c expected new old true weak') (purse (blocks_of s) old (cell_funds - t))) e
      (exchange_step at.opening at.words at.views at.history ready.stands at.seat at.view ready.seated ready.awake c kept
      (Compare c expected new old true weak') new tt asks tt refl ready.pending asks.2 room)
