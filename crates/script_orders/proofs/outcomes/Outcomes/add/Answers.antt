use Rattle.std.proofs.Common.{inr, rules, ◌∙◌}
use Rattle.indexmap.proofs.CallerLemmas.{insert_entry-new}
use Rattle.script_orders.proofs.Adding.{one_more}
use Rattle.script_orders.proofs.outcomes.Outcomes.add.Goals as goal

pub returns-in_ok-insert : goal.returns-in_ok-insert
returns-in_ok-insert c =
    record {
      added = inr (one_more _ _ c.args.text c.args.list
          (c.in_ok-insert.ensures.entries ∙ insert_entry-new _ c.args.self.now.found c.args.text c.args.list (search rules)));
    }
