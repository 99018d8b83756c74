use Rattle.script_runner.proofs.Allowances.{stays_dealt}
use Rattle.script_runner.proofs.Handling as handling
use Rattle.script_runner.proofs.Comparisons as comparisons
use Rattle.script_runner.proofs.Room as room
use Rattle.script_runner.proofs.acts.dispatch.deal.Goals as goal

pub carry_out-went-requires-clause-below : goal.carry_out-went-requires-clause-below
carry_out-went-requires-clause-below g c =
    let may = c.requires.suits in
    room.below c.args.kinds.now.items may.stance c.args.hand c.args.taken c.args.table.now may.arranged c.assert_invariant.ensures.fits

pub carry_out-went-requires-clause-asks : goal.carry_out-went-requires-clause-asks
carry_out-went-requires-clause-asks g c =
    let may = c.requires.suits in
    handling.asks c.args.kinds.now.items may.stance c.args.hand c.args.taken c.args.table.now may.arranged c.args.act c.requires.alone may.suits

pub returns-clause-arranged : goal.returns-clause-arranged
returns-clause-arranged g c x is suits =
    let u = c.carry_out-went.new.table in
    let stays = stays_dealt c.args.hand c.args.table.now c.args.taken c.args.act c.carry_out-went.result u c.carry_out-went.ensures.dealt in
    handling.arranged_after c.args.kinds.now.items x c.args.hand c.args.taken c.args.table.now u is (stays.shape, stays.allowance) c.args.act
    c.carry_out-went.result.taken c.requires.alone suits c.carry_out-went.ensures.changes

pub returns-clause-hand : goal.returns-clause-hand
returns-clause-hand g c =
    let u = c.carry_out-went.new.table in
    let may = c.requires.suits in
    let stays = stays_dealt c.args.hand c.args.table.now c.args.taken c.args.act c.carry_out-went.result u c.carry_out-went.ensures.dealt in
    comparisons.may_settle c.args.kinds.now.items may.stance c.args.hand c.args.taken c.args.table.now u may.arranged (stays.shape, stays.allowance)
    c.args.act c.carry_out-went.result c.requires.alone may.suits c.carry_out-went.ensures.changes
    (handling.arranged_after c.args.kinds.now.items may.stance c.args.hand c.args.taken c.args.table.now u may.arranged (stays.shape, stays.allowance)
    c.args.act c.carry_out-went.result.taken c.requires.alone may.suits c.carry_out-went.ensures.changes)
    c.requires.settled c.carry_out-went.ensures.dealt
