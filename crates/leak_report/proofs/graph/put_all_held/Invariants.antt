use Rattle.std.proofs.Common.{◌≡◌, ◌++◌, take, string_bytes}
use Rattle.leak_report.proofs.Prelude.{edge_lines, ended, flat_map}
use Rattle.leak_report.proofs.graph.put_all_held.Given as goal

abbrev pub invariant-loop-held : goal.invariant-loop-held
invariant-loop-held l =
    string_bytes l.text ≡ string_bytes l.fn.text
    ++ ended (flat_map (edge_lines l.shared l.found) (take l.held-index l.holdings))
