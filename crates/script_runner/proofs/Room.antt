-- A desk whose table has two slots to spare is below its allowance.
use Rattle.std.proofs.Common.{◌≡◌, ℕ, zero, suc, ◌+◌, ◌<◌, ◌≤◌, min, Bool, List, [], ◌∷◌, length}
use Rattle.std.proofs.Common.{Some, None, Option, refl, ap, arith}
use Rattle.script_runner.proofs.Prelude.{allowance_of, FitsSlots, IsArranged, IsBelow, IsVacant}
use Rattle.script_runner.proofs.Prelude.{Kind, kind_in, Stance, TableNow}
use Rattle.control_block.specs.Desks.{endings_of}
use Rattle.control_word.specs.Views.{total}
use Rattle.script_runner.specs.Tables as table
use Rattle.script_runner.specs.Tables.{is_filled}

some_kind : (s : table.Slot) (k : Option Kind) → Some (kind_in s) ≡ Some k → kind_in s ≡ k
some_kind s k e = ap (or_else k) e
  where
    or_else : Option Kind → Option (Option Kind) → Option Kind
    or_else k None = k
    or_else k (Some j) = j

not_filled : (s : table.Slot) → kind_in s ≡ None → is_filled s ≡ 0
not_filled None e = refl
not_filled (Some h) e = absurd cc

one_filled : (s : table.Slot) → is_filled s ≤ 1
one_filled None = omega arith
one_filled (Some h) = omega arith

all_filled : (ss : List table.Slot) → total is_filled ss ≤ length ss
all_filled [] = omega arith
all_filled (s ∷ ss) = let a = one_filled s in let ih = all_filled ss in omega (arith, a, ih)

one_spare : (ss : List table.Slot) (i : ℕ) → IsVacant ss i → total is_filled ss + 1 ≤ length ss
one_spare [] i e = absurd cc
one_spare (s ∷ ss) zero e = let a = not_filled s (some_kind s None e) in let b = all_filled ss in omega (arith, a, b)
one_spare (s ∷ ss) (suc i) e = let a = one_filled s in let ih = one_spare ss i e in omega (arith, a, ih)

two_spare : (ss : List table.Slot) (i j : ℕ) → i < j → IsVacant ss i → IsVacant ss j → total is_filled ss + 2 ≤ length ss
two_spare [] i j lt e f = absurd cc
two_spare (s ∷ ss) i zero lt e f = let no : ⊥ = omega (arith, lt) in absurd no
two_spare (s ∷ ss) zero (suc j) lt e f =
    let a = not_filled s (some_kind s None e) in let b = one_spare ss j f in omega (arith, a, b)
two_spare (s ∷ ss) (suc i) (suc j) lt e f =
    let a = one_filled s in let ih = two_spare ss i j (omega (arith, lt)) e f in omega (arith, a, ih)

at_most_one : (n : ℕ) → min 1 n ≤ 1
at_most_one n = omega arith

-- with room for a handle in each slot and two vacant ones a desk is below its allowance
pub spare_below : (t : TableNow ℕ) (i j : ℕ) → i < j → IsVacant t.slots i → IsVacant t.slots j → length t.slots ≤ allowance_of t.desk
    → FitsSlots t.desk t.slots → IsBelow t.desk
spare_below t i j lt one other room fits full =
    let spare = two_spare t.slots i j lt one other in
    let held = fits.held in
    let one = at_most_one (endings_of t.desk) in
    let all : t.desk.held + min 1 (endings_of t.desk) ≡ allowance_of t.desk = full in
    omega (arith, spare, held, room, one, all)

pub below : (ks : List Kind) (x : Stance) (hand : ℕ) (taken : Bool) (t : TableNow ℕ) → IsArranged ks x hand taken t → FitsSlots t.desk t.slots
    → IsBelow t.desk
below ks x hand taken t is fits =
    let many = is.many in
    spare_below t (hand + 1) (hand + 2) (omega arith) (is.rest (hand + 1) (omega arith) (omega (arith, many)))
    (is.rest (hand + 2) (omega arith) (omega (arith, many))) is.room fits
