use Rattle.std.proofs.Common.{◌≡◌, ℕ, suc, [], length}
use Rattle.std.specs.Prelude.{slice_get, Some}
use Rattle.std.specs.Vec.{vec_capacity}
use Rattle.control_block.specs.AllHolders.{IsToldOf}
use Rattle.control_block.specs.declared.census.holders.Holders.{Holders}
use Rattle.control_block.proofs.census.Census.without_cells.Given as goal

abbrev pub invariant-loop-before : goal.invariant-loop-before
invariant-loop-before g l = (length l.all.items ≡ l.before) × (vec_capacity l.all ≡ l.self.blocks)
    × ((k : ℕ) (h : Holders) → slice_get l.all.items k ≡ Some h → IsToldOf l.self (suc k) [] h)
