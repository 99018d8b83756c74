use Rattle.script_orders.specs.Found.{outcomes_in}
use Rattle.script_orders.specs.Orders.{AllDiffer, AreOutcomes, texts_of}
use Rattle.script_orders.specs.declared.all_orders.AllOutcomes.{AllOutcomes}
use Rattle.sptr.proofs.ShownOutcomes.{in_some}
use Rattle.sptr.proofs.orders.page.page_of.Goals as goal

pub outcomes_text-requires : goal.outcomes_text-requires
outcomes_text-requires c =
    in_some c.in_ok-found.found c.in-Some.all
    (λ (a : AllOutcomes). AreOutcomes c.args.script.now (outcomes_in a.outcomes.found.entries))
    c.in-Some.is c.in_ok-found.ensures.each

pub returns-clause-is : goal.returns-clause-is
returns-clause-is c =
    let all = c.in-Some.all in
    record {
      outcomes = outcomes_in all.outcomes.found.entries;
      each = in_some c.in_ok-found.found all
          (λ (a : AllOutcomes). AreOutcomes c.args.script.now (outcomes_in a.outcomes.found.entries))
          c.in-Some.is c.in_ok-found.ensures.each;
      once = in_some c.in_ok-found.found all
          (λ (a : AllOutcomes). AllDiffer (texts_of (outcomes_in a.outcomes.found.entries)))
          c.in-Some.is c.in_ok-found.ensures.once;
      states = all.states;
      shows = c.in_ok-text.ensures.shows;
    }
