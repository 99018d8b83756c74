-- Who holds what is left of a domain, of all blocks. All of it is own.
use Rattle.std.specs.Prelude.{◌≡◌, ℕ, suc, ◌-◌, List, ◌++◌, length, slice_get, Some}
use Rattle.control_word.specs.declared.model.handle.Kind.TheVariants.{Owner, Weak}
use Rattle.control_block.specs.Census.{CensusNow, owners_in, weaks_in}
use Rattle.control_block.specs.Holders.{many_of}
use Rattle.control_block.specs.declared.cell_calls.CellAt.{CellAt}
use Rattle.control_block.specs.declared.census.holders.Holders.{Holders}

-- it is told of block b: these cells hold its object, and as many more handles as it has are in no cell
pub record IsToldOf (c : CensusNow) (b : ℕ) (in_cells : List CellAt) (h : Holders) : Type 0 where
  pub cells : h.cells.items ≡ in_cells
  pub owners : h.forgotten.owners ≡ owners_in c b - many_of Owner in_cells
  pub weaks : h.forgotten.weaks ≡ weaks_in c b - many_of Weak in_cells

-- it is told of each block, from block 1 on, with the cells that `of` has for it
pub record TellsEach (c : CensusNow) (of : ℕ → List CellAt) (hs : List Holders) : Type 0 where
  pub many : length hs ≡ c.blocks
  pub each : (k : ℕ) (h : Holders) → slice_get hs k ≡ Some h → IsToldOf c (suc k) (of (suc k)) h

-- with `more` cells for each block, whatever was told before
pub record Notes (c : CensusNow) (more : ℕ → List CellAt) (old new : List Holders) : Type 0 where
  pub tells : (of : ℕ → List CellAt) → TellsEach c of old → TellsEach c (λ b. of b ++ more b) new
