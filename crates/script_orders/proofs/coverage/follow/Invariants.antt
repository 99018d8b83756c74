use Rattle.std.proofs.Common.{◌≡◌, ◌++◌, ◌≤◌, ℕ, List}
use Rattle.script_orders.specs.Coverage.{Covers, IsAfter}
use Rattle.script_orders.specs.Outcomes.{Outcome}
use Rattle.script_orders.proofs.coverage.follow.Given as goal

abbrev pub invariant-loop-left : goal.invariant-loop-left
invariant-loop-left l = record {
  after : IsAfter l.script l.turns.items l.world;
  covers : (outcomes : List Outcome) → Covers l.script outcomes l.turns.items
      → Covers l.script outcomes l.fn.turns.items;
  longer : (more : List ℕ) × (l.turns.items ≡ l.fn.turns.items ++ more);
  few : l.left ≤ l.fn.left;
}

abbrev pub decreases-loop-left : goal.decreases-loop-left
decreases-loop-left l = l.left
