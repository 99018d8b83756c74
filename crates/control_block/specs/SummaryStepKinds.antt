-- Steps on the shelf's summary, which tell nothing.
use Rattle.std.specs.Prelude.{◌≡◌, ℕ, ◌+◌, Option}
use Rattle.atomic_table.specs.Table.{Step}
use Rattle.control_word.specs.declared.shape.Shape.{Shape}
use Rattle.control_word.specs.Layout.{summary_place}
use Rattle.control_block.specs.StepKinds.{At}

-- where word j of the summary lies
abbrev pub summary_at : Shape → ℕ → ℕ
summary_at k j = summary_place k.blocks (k.shared_cells + k.weak_cells) j

module _ {V : Type 0} where
  -- the seat is as it was, whatever was found
  abbrev pub stayed : Step (Option V) → At V → ℕ → At V → Type 0
  stayed st m n m' = m' ≡ m
