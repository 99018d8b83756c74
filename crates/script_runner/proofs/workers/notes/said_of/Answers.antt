use Rattle.std.proofs.Common.{refl}
use Rattle.script_runner.proofs.workers.notes.said_of.Goals as goal

pub returns : goal.returns
returns c = refl
