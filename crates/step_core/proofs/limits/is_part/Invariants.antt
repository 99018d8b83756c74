use Rattle.std.proofs.Common.{ℕ, ◌<◌, get_or}
use Rattle.step_core.proofs.Prelude.{Call, HasFields, IsApartFromCell, IsWellNamed}
use Rattle.step_core.proofs.limits.is_part.Given as goal

abbrev pub invariant-loop-call : goal.invariant-loop-call
invariant-loop-call l = record {
  named : (k : ℕ) (d : Call) → k < l.call-index → IsWellNamed l.actor.kinds.items (get_or l.actor.calls.items k d);
  apart : (k : ℕ) (d : Call) → k < l.call-index → IsApartFromCell (get_or l.actor.calls.items k d);
  fields : (k : ℕ) (d : Call) → k < l.call-index → HasFields (get_or l.actor.calls.items k d);
}
