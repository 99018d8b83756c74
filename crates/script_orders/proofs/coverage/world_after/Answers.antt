use Rattle.std.proofs.Common.{◌<◌, ◌≤◌, ℕ, List, arith, get_or, length, refl, subst, sym, take}
use Rattle.std.proofs.lemmas.List.{take_all, take_more}
use Rattle.std.proofs.lemmas.List.Elements.{All-get_or}
use Rattle.script_orders.specs.Coverage.{IsAfter}
use Rattle.script_orders.proofs.Going.{after_more, after_none, thread_there}
use Rattle.script_orders.proofs.coverage.world_after.Goals as goal

pub loop-thread-init : goal.loop-thread-init
loop-thread-init c = record {
  after =
      after_none c.args.script.now (take 0 c.args.turns.now) _ refl c.in_ok-world.ensures.world_state
      c.in_ok-world.ensures.rests c.in_ok-world.ensures.threads;
}

pub take_turn-requires-clause-rests : goal.take_turn-requires-clause-rests
take_turn-requires-clause-rests c = c.loop-thread.invariant.after.rests

pub take_turn-requires-clause-thread : goal.take_turn-requires-clause-thread
take_turn-requires-clause-thread c =
    let here : c.loop-thread.thread-index < length c.args.turns.now = omega arith in
    thread_there c.args.script.now (take c.loop-thread.thread-index c.args.turns.now)
    (get_or c.args.turns.now c.loop-thread.thread-index 0) c.loop-thread.world c.loop-thread.invariant.after
    (All-get_or (λ (k : ℕ). (1 ≤ k) × (k ≤ length c.args.script.now.threads)) c.args.turns.now
    c.loop-thread.thread-index 0 here c.requires)

pub loop-thread-preserved : goal.loop-thread-preserved
loop-thread-preserved c =
    let i = c.loop-thread.thread-index in
    let here : i < length c.args.turns.now = omega arith in
    let u' = c.take_turn.new.world in
    record {
      after =
          subst (λ (l : List ℕ). IsAfter c.args.script.now l u') (sym (take_more c.args.turns.now i 0 here))
          (after_more c.args.script.now (take i c.args.turns.now) (get_or c.args.turns.now i 0) c.loop-thread.world u'
          c.loop-thread.invariant.after
          (All-get_or (λ (k : ℕ). (1 ≤ k) × (k ≤ length c.args.script.now.threads)) c.args.turns.now i 0 here
          c.requires)
          c.take_turn.ensures.rests c.take_turn.ensures.size c.take_turn.ensures.takes);
    }

pub returns-clause-after : goal.returns-clause-after
returns-clause-after c =
    subst (λ (l : List ℕ). IsAfter c.args.script.now l c.loop-thread.world)
    (take_all c.loop-thread.thread-index c.args.turns.now (omega arith)) c.loop-thread.invariant.after
