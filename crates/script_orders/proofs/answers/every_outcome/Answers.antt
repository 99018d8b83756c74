use Rattle.std.proofs.Common.{◌≡◌, length}
use Rattle.script_orders.specs.Found.{outcomes_in}
use Rattle.script_orders.specs.Orders.{AllDiffer, AreOutcomes, BeginsAlone, texts_of}
use Rattle.script_orders.specs.Seen.{IsCount}
use Rattle.script_orders.proofs.Adding.{all_told, in_some, some_seen}
use Rattle.script_orders.specs.declared.answers.Reply.{Reply}
use Rattle.script_orders.specs.declared.orders.Answer.TheVariants.{TooMany}
use Rattle.script_orders.specs.declared.all_orders.AllOutcomes.{AllOutcomes}
use Rattle.script_orders.proofs.answers.every_outcome.Goals as goal

pub returns-in-Some-clause-is : goal.returns-in-Some-clause-is
returns-in-Some-clause-is c =
    let all = c.in-Some.all in
    all_told c.args.script.now (outcomes_in all.outcomes.found.entries) all.states c.told.result
    (in_some c.in_ok-found.found all
    (λ (a : AllOutcomes). AreOutcomes c.args.script.now (outcomes_in a.outcomes.found.entries))
    c.in-Some.is c.in_ok-found.ensures.each)
    (in_some c.in_ok-found.found all (λ (a : AllOutcomes). BeginsAlone (outcomes_in a.outcomes.found.entries))
    c.in-Some.is c.in_ok-found.ensures.first)
    (in_some c.in_ok-found.found all (λ (a : AllOutcomes). AllDiffer (texts_of (outcomes_in a.outcomes.found.entries)))
    c.in-Some.is c.in_ok-found.ensures.once)
    (in_some c.in_ok-found.found all
    (λ (a : AllOutcomes). IsCount (length (outcomes_in a.outcomes.found.entries)) c.args.most a.states)
    c.in-Some.is c.in_ok-found.ensures.states).0
    c.told.ensures.answer c.told.ensures.text

pub returns-in-Some-clause-none : goal.returns-in-Some-clause-none
returns-in-Some-clause-none c =
    some_seen c.args.most (λ (reply : Reply). reply.answer ≡ TooMany) c.told.result c.in_ok-found.found c.in-Some.all
    c.in-Some.is c.in_ok-found.ensures.none
