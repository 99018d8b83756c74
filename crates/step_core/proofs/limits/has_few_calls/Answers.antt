use Rattle.std.proofs.Common.{◌≡◌, true, false, arith}
use Rattle.step_core.proofs.Programs.{more_calls}
use Rattle.step_core.proofs.limits.has_few_calls.Goals as goal

pub returns-then-calls-gt-MOST_CALLS : goal.returns-then-calls-gt-MOST_CALLS
returns-then-calls-gt-MOST_CALLS c =
    let m = more_calls c.args.actors.now c.loop-actor.actor-index c.loop-actor.calls c.actor-item.result c.loop-actor-test.true c.actor-item.is
    c.loop-actor.invariant.sum in
    (λ t. absurd (let k : ◌≡◌ false true = t in cc), λ le. absurd (omega (arith, m, le, c.if-calls-gt-MOST_CALLS.true, c.len-calls.ensures)))
