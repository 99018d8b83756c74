use Rattle.std.proofs.Common.{ℕ, List, Option, IfOk, ap, subst, sym}
use Rattle.std.specs.Borrow.{Bor}
use Rattle.std.specs.Prelude.{option_copied}
use Rattle.script_orders.specs.Orders.{IsAnswerText}
use Rattle.script_orders.proofs.orders.reply_to.Goals as goal

pub returns-in-Some-clause-is : goal.returns-in-Some-clause-is
returns-in-Some-clause-is c =
    subst (λ (o : Option (List ℕ)).
    IfOk c.turns_to.result (λ r. IsAnswerText o r.answer c.args.query.script.now r.text.items))
    (sym (ap (λ (o : Option (Bor (List ℕ))). option_copied o) c.in-Some.is)) c.turns_to.ensures.is

pub returns-in-None-clause-is : goal.returns-in-None-clause-is
returns-in-None-clause-is c =
    subst (λ (o : Option (List ℕ)).
    IfOk c.every_outcome.result (λ r. IsAnswerText o r.answer c.args.query.script.now r.text.items))
    (sym (ap (λ (o : Option (Bor (List ℕ))). option_copied o) c.in-None.is)) c.every_outcome.ensures.is
