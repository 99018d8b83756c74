use Rattle.std.proofs.Common.{[]}
use Rattle.std.specs.Prelude.{string_bytes}
use Rattle.script_picture.specs.Acts.{GoesOnWith}
use Rattle.script_picture.proofs.source.put_bytes.Given as goal

abbrev pub invariant-loop-byte : goal.invariant-loop-byte
invariant-loop-byte l = GoesOnWith [] (string_bytes l.fn.text) (string_bytes l.text)
