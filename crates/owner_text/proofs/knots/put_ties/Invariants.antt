use Rattle.std.proofs.Common.{◌≡◌, ◌++◌, map, take, string_bytes, codes}
use Rattle.owner_text.proofs.Prelude.{ended, tie_text}
use Rattle.owner_text.proofs.knots.put_ties.Given as goal

abbrev pub invariant-loop-tie : goal.invariant-loop-tie
invariant-loop-tie l = string_bytes l.text ≡ string_bytes l.fn.text
    ++ ended (map (tie_text (codes "tie") l.labels) (take l.tie-index l.ties))
