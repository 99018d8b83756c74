use Rattle.std.specs.Prelude.{string_bytes}
use Rattle.script_picture.specs.Acts.{place_start}
use Rattle.script_picture.proofs.Texts.{goes_after}
use Rattle.script_picture.proofs.source.put_statement.Goals as goal

pub returns : goal.returns
returns c =
    goes_after (place_start c.args.thread c.args.statement) (string_bytes c.args.text.now)
    (string_bytes c.put_place.new.text)
    (string_bytes c.put_written.new.text) c.in_ok-put_place.ensures c.in_ok-put_written.ensures
