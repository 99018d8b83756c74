use Rattle.std.proofs.Common.{◌≡◌, ◌++◌, string_bytes}
use Rattle.leak_report.proofs.Prelude.{abstraction, all_nodes, ended, state_in}
use Rattle.leak_report.proofs.graph.put_blocks.Given as goal

abbrev pub invariant-loop-before : goal.invariant-loop-before
invariant-loop-before l =
    string_bytes l.text ≡ string_bytes l.fn.text
    ++ ended (all_nodes (state_in (abstraction l.world)) l.found.findings l.found.held.items l.before)
