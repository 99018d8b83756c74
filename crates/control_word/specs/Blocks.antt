-- Blocks in a row (own).
use Rattle.std.specs.Prelude.{ℕ, zero, suc, List, [], ◌∷◌}
use Rattle.control_word.specs.declared.place.Block.{Block}

-- n blocks, of numbers from b on
abbrev pub blocks_from : ℕ → ℕ → List Block
blocks_from b zero = []
blocks_from b (suc n) = record { 0 = b } ∷ blocks_from (suc b) n
