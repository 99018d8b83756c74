use Rattle.std.proofs.Common.{ℕ, List, ◌++◌, length, ap, ◌∙◌, subst, arith}
use Rattle.step_core.proofs.Prelude.{AllRestIdle, IsAtEnd, IsRun, NonePays, RunInOrder, RunsToEnd}
use Rattle.step_core.proofs.Prelude.{SettleInOrder, Settles, TableInvariant, TraceStep, WorldState}
use Rattle.step_core.proofs.following.Chains.{follows}
use Rattle.step_core.proofs.runs.Calls.{settled_run}
use Rattle.step_core.proofs.runs.Calming.{all_calm, none_pays}
use Rattle.step_core.proofs.runs.Chains.{moves_on, whole}
use Rattle.step_core.proofs.runs.Ends.{at_end}
use Rattle.step_core.proofs.runs.Extents.{extent_run}
use Rattle.step_core.proofs.runs.Taking.{all_hold, all_idle}
use Rattle.step_core.proofs.runs.Through.{Goes, through}
use Rattle.step_core.proofs.telling.Census.{at_rest, still_now}
use Rattle.step_core.proofs.world.World.run.Goals as goal

module _ (c : goal.After-assert_invariant-3) where
  all : IsRun c.args.self.now c.finish.new.steps.items c.finish.new.self
  all =
      whole RunsToEnd (λ d m w ys runs. runs.run) _ c.args.self.now c.settle.new.self c.finish.new.self
      c.settle.new.steps.items c.finish.new.steps.items
      (whole Settles settled_run _ c.args.self.now c.follow.new.self c.settle.new.self c.follow.new.steps.items
      c.settle.new.steps.items c.follow.ensures.run
      c.settle.ensures.adds) c.finish.ensures.adds

  -- what each step keeps
  goes : Goes c.args.self.now
  goes =
      let threads = c.self.inside.threads.items in
      subst Goes c.self.view_is
      (record {
        kept = c.assert_invariant.ensures;
        actors = c.self.invariant.1.threads;
        hands = all_hold c.self.inside.table threads c.self.invariant.0;
        idle = all_idle c.self.inside.table threads c.self.invariant.0 c.self.invariant.1.threads c.assert_invariant.ensures;
      })

  -- nobody owes anything once all have finished their calls
  calm : NonePays c.settle.new.self
  calm =
      let threads = c.self-2.inside.threads.items in
      let adds = c.settle.ensures.adds in
      let actors = c.settle.ensures.actors in
      let each = all_calm (length c.follow.new.self.frame_views) c.follow.new.self c.settle.new.self adds.added adds.run in
      let told = c.self-2.invariant.1.pending_calls in
      let frame_views = ap (λ (u : WorldState). length u.frame_views) c.self-2.view_is in
      let pending_calls = ap (λ (u : WorldState). length u.pending_calls) c.self-2.view_is in
      none_pays c.settle.new.self
      (subst AllRestIdle c.self-2.view_is
      (all_idle c.self-2.inside.table threads c.self-2.invariant.0 c.self-2.invariant.1.threads c.assert_invariant-2.ensures))
      (λ e lt. each e (omega (arith, lt, actors, told, frame_views, pending_calls)))

  -- each thread is at its end
  ends : IsAtEnd c.finish.new.self
  ends =
      let actors = c.finish.ensures.actors in
      let told = c.self-3.invariant.1.pending_calls in
      let frame_views = ap (λ (u : WorldState). length u.frame_views) c.self-3.view_is in
      let pending_calls = ap (λ (u : WorldState). length u.pending_calls) c.self-3.view_is in
      at_end (length c.settle.new.self.frame_views) c.settle.new.self c.finish.new.self c.finish.ensures.adds.added
      c.finish.ensures.adds.run actors
      (omega (arith, actors, told, frame_views, pending_calls))

pub returns-clause-extent : goal.returns-clause-extent
returns-clause-extent c = extent_run c.args.self.now c.finish.new.self c.finish.new.steps.items (all c)

pub returns-clause-run : goal.returns-clause-run
returns-clause-run c = all c

-- the three parts follow one another
pub returns-clause-scheduled : goal.returns-clause-scheduled
returns-clause-scheduled c =
    let f = c.follow.ensures in
    let s = c.settle.ensures in
    let e = c.finish.ensures in
    let first = c.follow.new.steps.items in
    record {
      first = first;
      settled = s.adds.added;
      alone = e.adds.added;
      middle = c.follow.new.self;
      calm = c.settle.new.self;
      parts = e.adds.items ∙ ap (λ (l : List TraceStep). l ++ e.adds.added) s.adds.items;
      numbers = f.numbers;
      run = f.run;
      none = calm c;
      settles = subst (λ (n : ℕ). SettleInOrder n c.follow.new.self s.adds.added c.settle.new.self) f.actors s.adds.run;
      ends =
          subst (λ (n : ℕ). RunInOrder n c.settle.new.self e.adds.added c.finish.new.self) (s.actors ∙ f.actors)
          e.adds.run;
    }

pub returns-clause-moves : goal.returns-clause-moves
returns-clause-moves c =
    moves_on (RunInOrder (length c.settle.new.self.frame_views)) c.settle.new.self c.finish.new.self
    c.settle.new.steps.items c.finish.new.steps.items
    (moves_on (SettleInOrder (length c.follow.new.self.frame_views)) c.follow.new.self c.settle.new.self
    c.follow.new.steps.items c.settle.new.steps.items
    c.follow.ensures.moves c.settle.ensures.adds) c.finish.ensures.adds

pub returns-clause-headline : goal.returns-clause-headline
returns-clause-headline c =
    through c.args.self.now c.finish.new.self c.finish.new.steps.items (all c) (goes c)

pub returns-clause-rest : goal.returns-clause-rest
returns-clause-rest c = λ b inside.
    at_rest c.finish.new.self.ghost_state b (subst (λ (u : WorldState). TableInvariant u.ghost_state) c.self-3.view_is c.assert_invariant-3.ensures)
    (still_now c.finish.new.self c.self-3.inside.table c.self-3.inside.threads.items c.self-3.inside.made
    c.self-3.inside.ended c.self-3.view_is
    c.self-3.invariant.0 c.self-3.invariant.1 (ends c))

pub returns-clause-end : goal.returns-clause-end
returns-clause-end c = ends c

-- what the threads do is what their statements ask for
pub returns-clause-follows : goal.returns-clause-follows
returns-clause-follows c = follows c.args.self.now c.finish.new.self c.finish.new.steps.items (all c)
