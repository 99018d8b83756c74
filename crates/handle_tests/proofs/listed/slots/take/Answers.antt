use Rattle.handle_tests.proofs.Hands.{taken}
use Rattle.handle_tests.proofs.listed.slots.take.Goals as goal

pub returns : goal.returns
returns c =
    taken c.args._desk.now c.args.slots.now c.args.at c.empty_out.result c.empty_out.new.slots c.requires c.empty_out.ensures.0 c.empty_out.ensures.1
