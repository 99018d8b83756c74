use Rattle.std.specs.Prelude.{string_bytes}
use Rattle.script_picture.proofs.Texts.{goes_by}
use Rattle.script_picture.proofs.source.put_byte.Goals as goal

pub returns : goal.returns
returns c =
    goes_by (string_bytes c.args.text.now) (string_bytes c.push.new.self) _
    c.in_ok-push.ensures.bytes
