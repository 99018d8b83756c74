use Rattle.script_orders.proofs.Telling.{not_told, sought_told}
use Rattle.script_orders.proofs.finding.turns_sought.Goals as goal

pub returns-then-not-can-clause-is : goal.returns-then-not-can-clause-is
returns-then-not-can-clause-is c =
    not_told c.args.sought.now.bytes.now c.args.sought.now.line.now c.in_ok-can.can c.cannot_tell.result
    c.in_ok-can.ensures.can c.if-not-can.true c.cannot_tell.ensures.answer c.cannot_tell.ensures.text

pub returns-clause-is : goal.returns-clause-is
returns-clause-is c =
    sought_told c.args.sought.now.bytes.now c.args.sought.now.line.now c.in_ok-can.can c.turns_found.result
    c.in_ok-can.ensures.can c.if-not-can.false c.turns_found.ensures.is
