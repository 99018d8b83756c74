-- Which cells a worker's acts reach.
use Rattle.std.proofs.Common.{ℕ}
use Rattle.script_runner.proofs.Prelude.{CellName, IsInReach, IsReachable, IsThird, TableNow}
use Rattle.script_runner.proofs.Refusals.{owner_there}
use Rattle.step_threads.specs.declared.programs.call.CellName.TheVariants as cell

pub third : (t : TableNow ℕ) (c : CellName) → IsReachable t c → IsThird c
third t (cell.Shared n) reach = tt
third t (cell.Weak n) reach = tt
third t (cell.Member k m) reach = reach.1

-- a cell that a worker reaches is in its table's reach
pub in_reach : (t : TableNow ℕ) (c : CellName) → IsReachable t c → IsInReach t.desk.shape t.slots c
in_reach t (cell.Shared n) reach = reach
in_reach t (cell.Weak n) reach = reach
in_reach t (cell.Member k m) reach = (owner_there t.slots k.0 reach.0, reach.1)
