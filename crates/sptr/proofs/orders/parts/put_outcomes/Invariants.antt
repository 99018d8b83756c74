use Rattle.std.proofs.Common.{take}
use Rattle.std.specs.Prelude.{string_bytes}
use Rattle.script_orders.specs.Found.{outcomes_in}
use Rattle.sptr.specs.OutcomePages.{ShowsAll}
use Rattle.sptr.proofs.orders.parts.put_outcomes.Given as goal

abbrev pub invariant-loop-index : goal.invariant-loop-index
invariant-loop-index l =
    ShowsAll l.script (take l.index (outcomes_in l.outcomes.found.entries)) (string_bytes l.fn.page) (string_bytes l.page)
