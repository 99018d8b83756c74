use Rattle.std.proofs.Common.{◌≡◌, ◌++◌, take, string_bytes}
use Rattle.leak_report.proofs.Prelude.{ended, flat_map, holder_lines}
use Rattle.leak_report.proofs.lines.put_holders.Given as goal

abbrev pub invariant-loop-holding : goal.invariant-loop-holding
invariant-loop-holding l =
    string_bytes l.text ≡ string_bytes l.fn.text ++ ended (flat_map (holder_lines l.shared) (take l.holding-index l.holdings))
