use Rattle.control_block.proofs.Shelving.{belongs_on}
use Rattle.handle_tests.proofs.ending.resets.make_and_reset.Goals as goal

pub reset_twice-told-requires-clause-carries : goal.reset_twice-told-requires-clause-carries
reset_twice-told-requires-clause-carries g c =
    c.in_ok-pile.ensures.carries c.make.new.desk (belongs_on c.args.desk.now c.make.new.desk c.args.domain.now c.in-Ok.ensures.desk c.requires.domain)
