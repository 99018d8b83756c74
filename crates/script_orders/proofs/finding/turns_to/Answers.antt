use Rattle.std.proofs.Common.{◌≡◌}
use Rattle.script_orders.specs.declared.answers.Reply.{Reply}
use Rattle.script_orders.specs.declared.orders.Answer.TheVariants.{TooMany}
use Rattle.script_orders.proofs.Adding.{zero_none}
use Rattle.script_orders.proofs.finding.turns_to.Goals as goal

pub returns-in-Ok-clause-none : goal.returns-in-Ok-clause-none
returns-in-Ok-clause-none c =
    zero_none c.args.most (λ (reply : Reply). reply.answer ≡ TooMany) c.turns_sought.result c.in-Ok.ensures.some
