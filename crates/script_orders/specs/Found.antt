-- The outcomes that were found, by what a map of them has. All of it is own.
use Rattle.std.specs.Prelude.{ℕ, List, map}
use Rattle.std.specs.Global.{Vec}
use Rattle.script_orders.specs.Outcomes.{Outcome}

abbrev pub outcomes_in : List (Vec ℕ × Vec ℕ) → List Outcome
outcomes_in entries = map (λ e. (e.0.items, e.1.items)) entries
