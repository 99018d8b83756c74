use Rattle.std.specs.Prelude.{string_bytes}
use Rattle.script_picture.proofs.Texts.{goes_none}
use Rattle.script_picture.proofs.source.put_written.Goals as goal

pub returns-in-None : goal.returns-in-None
returns-in-None c = goes_none (string_bytes c.args.text.now)
