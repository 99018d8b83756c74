use Rattle.std.proofs.Common.{ℕ, ◌-◌, List, length, get_or, sym, ◌∙◌, subst, arith}
use Rattle.step_core.proofs.Prelude.{Advances, IsRun, NamesActor, TraceStep}
use Rattle.std.proofs.lemmas.List.Elements.{All-get_or}
use Rattle.step_core.proofs.runs.Chains.{moves_more, number_more, run_more}
use Rattle.step_core.proofs.runs.Measures.{never_more}
use Rattle.step_core.proofs.world.World.follow.Goals as goal

pub loop-turn-preserved : goal.loop-turn-preserved
loop-turn-preserved c =
    let i = c.loop-turn.invariant in
    let s = c.advance-stepped.ensures in
    let e = c.add.ensures in
    let lt = c.loop-turn-test.true in
    let turn = get_or c.args.turns.now c.loop-turn.turn-index 0 in
    let x : TraceStep = record { actor = turn; stepped = c.advance-stepped.result } in
    let named = All-get_or (NamesActor (length c.args.self.now.frame_views)) c.args.turns.now c.loop-turn.turn-index 0 lt c.requires.named in
    let advances = subst (λ (n : ℕ). Advances (n - 1) c.loop-turn.self c.advance-stepped.result c.advance-stepped.new.self) c.from.ensures s.advances in
    let low = named.0 in
    let high = named.1 in
    let same = i.actors in
    let from = c.from.ensures in
    let most = never_more (c.from.result - 1) c.loop-turn.self c.advance-stepped.new.self c.advance-stepped.result s.was s.kept
    (omega (arith, low, high, same, from)) s.steps s.never in
    let len = e.len in
    let was = i.len in
    let before = i.room in
    let room = e.room in
    record {
      run = subst (λ (l : List TraceStep). IsRun c.args.self.now l c.advance-stepped.new.self) (sym e.items)
          (run_more c.args.self.now c.loop-turn.self c.advance-stepped.new.self c.loop-turn.steps.items x i.run advances);
      numbers = number_more c.loop-turn.steps.items c.add.new.steps.items c.args.turns.now c.loop-turn.turn-index c.advance-stepped.result lt i.numbers e.items;
      moves = moves_more c.loop-turn.steps.items c.add.new.steps.items turn c.advance-stepped.result i.moves s.never e.items;
      len = omega (arith, len, was);
      room = (let still = s.actors in omega (arith, most, before, room, still));
      actors = s.actors ∙ i.actors;
    }
