use Rattle.std.proofs.Common.{◌≡◌, ◌++◌, take, string_bytes}
use Rattle.leak_report.proofs.Prelude.{cut_lines, ended, flat_map}
use Rattle.leak_report.proofs.knots.put_cuts.Given as goal

abbrev pub invariant-loop-tie : goal.invariant-loop-tie
invariant-loop-tie l =
    string_bytes l.text ≡ string_bytes l.fn.text
    ++ ended (flat_map (cut_lines l.found.cuts.items l.shared) (take l.tie-index l.ties))
