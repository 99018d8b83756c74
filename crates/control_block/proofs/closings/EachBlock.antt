-- The blocks that a census tells of are the domain's.
use Rattle.std.proofs.Common.{◌≡◌, ℕ, zero, suc, ◌+◌, ◌<◌, ◌≤◌, List, length, slice_index_or}
use Rattle.std.proofs.Common.{sym, ap, subst, arith}
use Rattle.std.specs.Iterator.{YieldsFirst}
use Rattle.std.specs.Prelude.{None, Option, Some}
use Rattle.control_block.proofs.Prelude.{Block}
use Rattle.control_word.specs.Blocks.{blocks_from}

from_within : (b n m k : ℕ) (d : Block) → 0 < b → b + n ≤ m + 1 → k < length (blocks_from b n)
    → (0 < (slice_index_or (blocks_from b n) k d).0) × ((slice_index_or (blocks_from b n) k d).0 ≤ m)
from_within b zero m k d some few lt = absurd (omega (arith, lt))
from_within b (suc n) m zero d some few lt = (some, omega (arith, few))
from_within b (suc n) m (suc k) d some few lt =
    from_within (suc b) n m k d (omega arith) (omega (arith, few)) (omega (arith, lt))

pub all_within : (n : ℕ) (s : List Block) → s ≡ blocks_from 1 n → (k : ℕ) (d : Block) → k < length s
    → (0 < (slice_index_or s k d).0) × ((slice_index_or s k d).0 ≤ n)
all_within n s is k d lt =
    subst (λ l. k < length l → (0 < (slice_index_or l k d).0) × ((slice_index_or l k d).0 ≤ n)) (sym is)
    (from_within 1 n n k d (omega arith) (omega arith)) lt

-- what is so of each that is left is so of each that is left afterwards
pub left_within : (P : Block → Type 0) (r : Option Block) (s t : List Block) → YieldsFirst (λ x. x) s r t
    → ((k : ℕ) (d : Block) → k < length s → P (slice_index_or s k d))
    → (k : ℕ) (d : Block) → k < length t → P (slice_index_or t k d)
left_within P None s t e all k d lt = let none = ap length e.1 in absurd (omega (arith, none, lt))
left_within P (Some x) s t e all k d lt =
    subst (λ l. (j : ℕ) (y : Block) → j < length l → P (slice_index_or l j y)) e all (suc k) d (omega (arith, lt))
