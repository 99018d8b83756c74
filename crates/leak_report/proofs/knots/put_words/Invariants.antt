use Rattle.std.proofs.Common.{◌≡◌, ◌++◌, take, string_bytes}
use Rattle.leak_report.proofs.Prelude.{flat_map, owner_cell_text}
use Rattle.leak_report.proofs.knots.put_words.Given as goal

abbrev pub invariant-loop-tie : goal.invariant-loop-tie
invariant-loop-tie l = string_bytes l.text ≡ string_bytes l.fn.text ++ flat_map (owner_cell_text l.shared) (take l.tie-index l.ties)
