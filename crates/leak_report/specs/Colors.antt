-- The colors of blocks that are left. All of it is own.
use Rattle.std.specs.Prelude.{◌≡◌, ℕ, List, [], ◌∷◌, map, Some, None, Option}
use Rattle.leak_report.specs.Prelude.{AbstractState, census_of, Counts, Findings, flat_map, from}
use Rattle.leak_report.specs.Prelude.{Holding, State, state_in}
use Rattle.leak_report.specs.Findings.{AreFound, held_at}
use Rattle.leak_report.specs.Graph.{color_at}
use Rattle.leak_report.specs.declared.color.Colored.{Colored}

-- a block in the color of its node
abbrev pub colored_if : ℕ → List ℕ → Option Counts → List (ℕ × List ℕ)
colored_if block color None = []
colored_if block color (Some counts) = (block, color) ∷ []

-- of a block that isn't vacant
abbrev pub colored : State → Findings → List Holding → ℕ → List (ℕ × List ℕ)
colored s f hs block = colored_if block (color_at f hs block) (census_of s block)

-- what was answered, without where its words lie in memory
abbrev pub in_color : Colored → ℕ × List ℕ
in_color x = (x.block, x.color.now)

-- all blocks of a scene that aren't vacant, in order, each in the color of its node
pub record AreColored (c : AbstractState) (blocks : List Colored) : Type 0 where
  pub findings : Findings
  pub found : AreFound c findings
  pub colors : map in_color blocks ≡ flat_map (colored (state_in c) findings (held_at c))
      (from 1 c.extent.shape.blocks)
