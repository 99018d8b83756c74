-- The law of a step on the shelf's summary, as in Steps. All of it is own.
use Rattle.std.specs.Prelude.{ℕ}
use Rattle.control_word.specs.declared.model.view.Pending.TheVariants.{Idle}
use Rattle.control_word.specs.Layout.{summary_place}
use Rattle.control_word.specs.Steps.{MovesBy, Point, ReadyBy, Standing}

module _ (V : Type 0) (S : Standing V) where
  -- write: a word of the summary may be any number, and stands for nothing
  abbrev pub WritesSummary : Type 0
  WritesSummary =
      (at : Point V) (j n : ℕ) → ReadyBy S at Idle
      → MovesBy S at (summary_place at.opening.blocks at.opening.cells j) n Idle
