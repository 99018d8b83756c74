use Rattle.std.proofs.Common.{Some}
use Rattle.script_runner.proofs.Compared.{found_below}
use Rattle.script_runner.proofs.table.slots.take_handle.Goals as goal

pub empty_out-requires : goal.empty_out-requires
empty_out-requires c = found_below c.args.slots.now.items c.args.at (Some c.requires.0) c.requires.1
