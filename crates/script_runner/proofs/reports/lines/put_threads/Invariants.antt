use Rattle.std.proofs.Common.{◌≡◌, ◌++◌, take, string_bytes}
use Rattle.script_runner.proofs.Prelude.{ended, threads_lines}
use Rattle.script_runner.proofs.reports.lines.put_threads.Given as goal

abbrev pub invariant-loop-at : goal.invariant-loop-at
invariant-loop-at l = string_bytes l.text ≡ string_bytes l.fn.text ++ ended (threads_lines 1 (take l.at l.lines))
