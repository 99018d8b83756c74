use Rattle.std.proofs.Common.{string_bytes}
use Rattle.owner_text.proofs.Prelude.{quoted_byte}
use Rattle.owner_text.proofs.LineLemmas.{bytes_on}
use Rattle.owner_text.proofs.drawing.put_quoted.Goals as goal

pub loop-byte-preserved : goal.loop-byte-preserved
loop-byte-preserved c =
    bytes_on quoted_byte c.as_bytes-byte-items.result.now c.loop-byte.byte-index 0
    (string_bytes c.args.text.now)
    (string_bytes c.loop-byte.text) (string_bytes c.put_byte.new.text) c.loop-byte-test.true
    c.loop-byte.invariant c.in_ok-put_byte.ensures
