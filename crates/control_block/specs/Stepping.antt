-- Which steps the rule lets a seat make.
use Rattle.std.specs.Prelude.{ℕ}
use Rattle.atomic_table.specs.Table.{Allows}
use Rattle.control_word.specs.declared.shape.Shape.{Shape}
use Rattle.control_block.specs.StepKinds.{At}
use Rattle.control_block.specs.Rule.{Ruled}

-- whatever the table is when the word i becomes f of what it was, the seat may step so, and is told this
pub record MayStep {V : Type 0} (key : Shape) (slots id : ℕ) (me : At V) (i : ℕ) (f : ℕ → ℕ)
    (then : ℕ → At V → Type 0) : Type 0 where
  pub allows : Allows (Ruled key) slots id me i f then
