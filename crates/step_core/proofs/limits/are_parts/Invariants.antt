use Rattle.std.proofs.Common.{ℕ, ◌<◌, get_or, All}
use Rattle.step_core.proofs.Prelude.{Actor, HasFields, IsPart, part_of}
use Rattle.step_core.proofs.limits.are_parts.Given as goal

abbrev pub invariant-loop-actor : goal.invariant-loop-actor
invariant-loop-actor l = record {
  parts : (k : ℕ) (d : Actor) → k < l.actor-index → IsPart (part_of (get_or l.actors k d));
  fields : (k : ℕ) (d : Actor) → k < l.actor-index → All HasFields (get_or l.actors k d).calls.items;
}
