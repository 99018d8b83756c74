use Rattle.std.proofs.Common.{◌+◌, refl, ap}
use Rattle.control_block.proofs.Prelude.{DeskNow}
use Rattle.control_block.proofs.desks.DeskBags.{not_limit}
use Rattle.control_block.proofs.calls.empties.count_empty.Goals as goal

pub returns-then-is_full-clause-limit : goal.returns-then-is_full-clause-limit
returns-then-is_full-clause-limit g c = (λ _. c.is_full.ensures.0 c.if-is_full.true, λ _. refl)

pub returns-then-is_full-clause-refused : goal.returns-then-is_full-clause-refused
returns-then-is_full-clause-refused g c = (refl, refl)

pub returns-then-is_full-clause-counted : goal.returns-then-is_full-clause-counted
returns-then-is_full-clause-counted g c = tt

pub returns-then-is_full-clause-holds : goal.returns-then-is_full-clause-holds
returns-then-is_full-clause-holds g c = tt

pub returns-clause-limit : goal.returns-clause-limit
returns-clause-limit g c = not_limit c.args.desk.now c.is_full.result c.is_full.ensures c.if-is_full.false

pub returns-clause-refused : goal.returns-clause-refused
returns-clause-refused g c = tt

pub returns-clause-counted : goal.returns-clause-counted
returns-clause-counted g c = ap (λ (z : DeskNow g.row.V.Denot). record z { held = z.held + 1 }) c.desk.view_is
