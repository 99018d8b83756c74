use Rattle.std.proofs.Common.{rules}
use Rattle.handle_tests.proofs.ending.wide.nest.Goals as goal

pub drop_shared-gone-requires-clause-carries : goal.drop_shared-gone-requires-clause-carries
drop_shared-gone-requires-clause-carries c = c.in-Ok-new.ensures.carries c.put_last-stored.new.desk (search rules)
