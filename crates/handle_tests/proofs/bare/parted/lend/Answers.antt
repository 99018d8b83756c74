use Rattle.handle_tests.proofs.Parting.{lent, may_lend}
use Rattle.handle_tests.proofs.bare.parted.lend.Goals as goal

pub split_slots-requires-clause-held : goal.split_slots-requires-clause-held
split_slots-requires-clause-held c =
    may_lend 4 c.args.desk.now c.args.slots.now c.split_at.result.1.now c.requires.holds c.split_at.ensures.back

pub returns-in-Ok-clause-mine : goal.returns-in-Ok-clause-mine
returns-in-Ok-clause-mine c =
    (lent 4 c.args.desk.now c.split_slots.new.self c.in-Ok.two c.args.story.now.allowance c.args.story.now.blocks c.args.slots.now
    c.split_at.result.1.now c.requires.holds c.split_at.ensures.back c.in-Ok.ensures.parts).1

pub returns-in-Ok-clause-theirs : goal.returns-in-Ok-clause-theirs
returns-in-Ok-clause-theirs c =
    (lent 4 c.args.desk.now c.split_slots.new.self c.in-Ok.two c.args.story.now.allowance c.args.story.now.blocks c.args.slots.now
    c.split_at.result.1.now c.requires.holds c.split_at.ensures.back c.in-Ok.ensures.parts).0
