use Rattle.std.proofs.Common.{◌≡◌, ◌++◌, take, string_bytes}
use Rattle.owner_text.proofs.Prelude.{cut_lines, ended, flat_map}
use Rattle.owner_text.proofs.knots.put_cuts.Given as goal

abbrev pub invariant-loop-tie : goal.invariant-loop-tie
invariant-loop-tie l = string_bytes l.text ≡ string_bytes l.fn.text
    ++ ended (flat_map (cut_lines l.found.cuts.items l.labels) (take l.tie-index l.ties))
