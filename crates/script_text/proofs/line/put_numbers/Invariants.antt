use Rattle.std.proofs.Common.{◌≡◌, ◌++◌, take, string_bytes}
use Rattle.script_text.proofs.Prelude.{flat_map, number_after}
use Rattle.script_text.proofs.line.put_numbers.Given as goal

abbrev pub invariant-loop-number : goal.invariant-loop-number
invariant-loop-number l =
    string_bytes l.text ≡ string_bytes l.fn.text
    ++ flat_map number_after (take l.number-index l.numbers)
