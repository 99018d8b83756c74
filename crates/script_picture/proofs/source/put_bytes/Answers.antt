use Rattle.std.proofs.Common.{[]}
use Rattle.std.specs.Prelude.{string_bytes}
use Rattle.script_picture.proofs.Texts.{goes_both, goes_none}
use Rattle.script_picture.proofs.source.put_bytes.Goals as goal

pub loop-byte-init : goal.loop-byte-init
loop-byte-init c = goes_none (string_bytes c.args.text.now)

pub loop-byte-preserved : goal.loop-byte-preserved
loop-byte-preserved c =
    goes_both [] (string_bytes c.args.text.now) (string_bytes c.loop-byte.text)
    (string_bytes c.put_byte.new.text) c.loop-byte.invariant
    c.in_ok-put_byte.ensures
