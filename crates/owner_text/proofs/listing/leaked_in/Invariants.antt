use Rattle.std.proofs.Common.{◌≡◌, ◌≤◌}
use Rattle.owner_text.proofs.Prelude.{counted, draft_of, is_leaked}
use Rattle.owner_text.proofs.listing.leaked_in.Given as goal

abbrev pub invariant-loop-before : goal.invariant-loop-before
invariant-loop-before l =
    (l.count ≡ counted (is_leaked (draft_of l.draft) l.found) l.before) × (l.count ≤ l.before)
