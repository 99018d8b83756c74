use Rattle.std.proofs.Common.{◌≡◌, ◌++◌, take, string_bytes}
use Rattle.owner_text.proofs.Prelude.{flat_map, quoted_byte}
use Rattle.owner_text.proofs.drawing.put_quoted.Given as goal

abbrev pub invariant-loop-byte : goal.invariant-loop-byte
invariant-loop-byte l = string_bytes l.text ≡ string_bytes l.fn.text
    ++ flat_map quoted_byte (take l.byte-index l.byte-items)
