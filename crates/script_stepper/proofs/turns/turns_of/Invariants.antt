use Rattle.std.proofs.Common.{◌≡◌, ◌+◌, ◌≤◌, length}
use Rattle.script_stepper.proofs.Prelude.{is_comma, slice_split, turns_from}
use Rattle.script_stepper.specs.TurnLists.{list_at}
use Rattle.script_stepper.proofs.TurnLemmas.{with_front}
use Rattle.script_stepper.proofs.turns.turns_of.Given as goal

abbrev pub invariant-loop-word : goal.invariant-loop-word
invariant-loop-word l = record {
  read : with_front l.turns.items (turns_from l.threads l.position (slice_split is_comma l.rest)) ≡ list_at l.threads l.text;
  number : l.position + length l.rest ≤ 1 + length l.text;
}

abbrev pub decreases-loop-word : goal.decreases-loop-word
decreases-loop-word l = length l.rest
