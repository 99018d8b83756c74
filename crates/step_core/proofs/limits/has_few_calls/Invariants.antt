use Rattle.std.proofs.Common.{◌≡◌, ◌≤◌, map, take}
use Rattle.step_core.proofs.Prelude.{call_count, part_of}
use Rattle.step_core.proofs.limits.has_few_calls.Given as goal

abbrev pub invariant-loop-actor : goal.invariant-loop-actor
invariant-loop-actor l = record {
  sum : l.calls ≡ call_count (map part_of (take l.actor-index l.actors));
  few : l.calls ≤ 65536;
}
