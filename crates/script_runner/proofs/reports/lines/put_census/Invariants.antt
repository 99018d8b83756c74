use Rattle.std.proofs.Common.{◌≡◌, ◌++◌, string_bytes}
use Rattle.script_runner.proofs.Prelude.{closed_block_lines, ended, flat_map}
use Rattle.step_threads.specs.Stocks.{from}
use Rattle.script_runner.proofs.reports.lines.put_census.Given as goal

abbrev pub invariant-loop-before : goal.invariant-loop-before
invariant-loop-before l = string_bytes l.text ≡ string_bytes l.fn.text ++ ended (flat_map (closed_block_lines l.census) (from 1 l.before))
