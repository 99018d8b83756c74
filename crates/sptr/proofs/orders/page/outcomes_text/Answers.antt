use Rattle.std.specs.Prelude.{string_bytes}
use Rattle.script_orders.specs.Found.{outcomes_in}
use Rattle.sptr.proofs.ShownOutcomes.{page_shown}
use Rattle.sptr.proofs.orders.page.outcomes_text.Goals as goal

pub returns-in-Ok-put_end-clause-shows : goal.returns-in-Ok-put_end-clause-shows
returns-in-Ok-put_end-clause-shows c =
    page_shown c.args.script.now (outcomes_in c.args.all.now.outcomes.found.entries) c.args.all.now.states
    (string_bytes c.in-Ok.page) (string_bytes c.put_outcomes.new.page) (string_bytes c.put_end.new.page)
    c.in-Ok.ensures c.in_ok-put_outcomes.ensures.shows c.in-Ok-put_end.ensures
