use Rattle.std.specs.Prelude.{string_bytes}
use Rattle.script_orders.specs.Found.{outcomes_in}
use Rattle.sptr.proofs.ShownOutcomes.{ends_with}
use Rattle.sptr.proofs.orders.page.put_end.Goals as goal

pub returns : goal.returns
returns c =
    ends_with (outcomes_in c.args.all.now.outcomes.found.entries) c.args.all.now.states (string_bytes c.args.page.now)
    (string_bytes c.put_closing.new.page) (string_bytes c.put_scripts.new.text)
    c.in_ok-put_closing.ensures c.in_ok-put_scripts.ensures
