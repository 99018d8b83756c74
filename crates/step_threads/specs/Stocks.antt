-- Stores of vacant blocks, by the blocks' numbers. All of it is own.
use Rattle.std.specs.Prelude.{ℕ, zero, suc, ◌<◌, ◌≤◌, List, [], ◌∷◌, map, length, All}
use Rattle.std.specs.BinaryHeap.{IsHeap}
use Rattle.std.specs.Ordering.{nat_cmp}
use Rattle.std.specs.declared.cmp.Reverse.{Reverse}
use Rattle.control_word.specs.Limits.{most_blocks}

-- the blocks in a store, in some order, and how many it may have
pub record StoreView : Type 0 where
  pub blocks : List ℕ
  pub room : ℕ

abbrev pub numbers : List (Reverse ℕ) → List ℕ
numbers items = map (λ (r : Reverse ℕ). r.0) items

-- the least number comes first
abbrev pub IsOrdered : List (Reverse ℕ) → Type 0
IsOrdered items = IsHeap (λ (x y : Reverse ℕ). nat_cmp y.0 x.0) items

-- n numbers from b on
abbrev pub from : ℕ → ℕ → List ℕ
from b zero = []
from b (suc n) = b ∷ from (suc b) n

-- it is a block's number
abbrev pub IsNumber : ℕ → Type 0
IsNumber b = (0 < b) × (b ≤ most_blocks)

-- this block may come in
abbrev pub HasRoomFor : StoreView → ℕ → Type 0
HasRoomFor s b = IsNumber b × (length s.blocks < s.room)

-- blocks that came in, the least first, and those from `next` on below `end`
pub record IsRange (returned : List (Reverse ℕ)) (next end : ℕ) : Type 0 where
  pub ordered : IsOrdered returned
  pub valid : All IsNumber (numbers returned)
  pub some : 0 < next
  pub within : next ≤ end
  pub few : end ≤ 65536
