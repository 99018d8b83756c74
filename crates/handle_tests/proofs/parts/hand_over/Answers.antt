use Rattle.std.proofs.Common.{rules}
use Rattle.handle_tests.proofs.parts.hand_over.Goals as goal

pub only_owner-requires : goal.only_owner-requires
only_owner-requires c = (c.args.handle, search (rules, c.in-Ok-split.ensures.handles, c.in-Ok.ensures.items, c.push.ensures.items))

pub only_owner-requires-in-Err-split : goal.only_owner-requires-in-Err-split
only_owner-requires-in-Err-split c = (c.args.handle, search (rules, c.in-Err-split.ensures.same, c.in-Ok.ensures.items))
