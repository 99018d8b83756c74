use Rattle.std.proofs.Common.{◌≡◌, ◌++◌, map, take, string_bytes}
use Rattle.owner_text.proofs.Prelude.{ended, weaken_text}
use Rattle.owner_text.proofs.knots.put_weakenings.Given as goal

abbrev pub invariant-loop-pair : goal.invariant-loop-pair
invariant-loop-pair l = string_bytes l.text ≡ string_bytes l.fn.text
    ++ ended (map (weaken_text l.labels) (take l.pair-index l.pairs))
