use Rattle.std.proofs.Common.{◌∙◌, ◌++◌, ℕ, List, ap}
use Rattle.std.specs.Prelude.{string_bytes}
use Rattle.script_orders.specs.Orders.{told_one}
use Rattle.sptr.specs.OutcomePages.{outcome_part}
use Rattle.sptr.proofs.orders.parts.put_outcome.Goals as goal

pub returns-in-Ok-clause-adds : goal.returns-in-Ok-clause-adds
returns-in-Ok-clause-adds c =
    let told = c.args.told in (
      string_bytes c.in_ok-run.run',
      c.in_ok-run.ensures.run,
      c.in-Ok.ensures
          ∙ ap (λ (l : List ℕ). string_bytes c.args.page.now
          ++ outcome_part (told_one told.number (told.text.now, told.list.now)) l) c.as_bytes.ensures.value,
    )
