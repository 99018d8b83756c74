use Rattle.handle_tests.proofs.Hands.{laid}
use Rattle.handle_tests.proofs.listed.slots.put.Goals as goal

pub returns : goal.returns
returns c =
    laid c.args._desk.now c.args.slots.now c.args.at c.args.handle c.fill.result c.fill.new.slots c.requires c.fill.ensures.0 c.fill.ensures.1
