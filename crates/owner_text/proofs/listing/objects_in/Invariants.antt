use Rattle.std.proofs.Common.{◌≡◌, ◌≤◌}
use Rattle.owner_text.proofs.Prelude.{counted, is_object}
use Rattle.owner_text.proofs.listing.objects_in.Given as goal

abbrev pub invariant-loop-before : goal.invariant-loop-before
invariant-loop-before l =
    (l.count ≡ counted (is_object l.draft.objects.items) l.before) × (l.count ≤ l.before)
