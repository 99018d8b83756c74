use Rattle.std.proofs.Common.{◌<◌, length, ap, arith}
use Rattle.step_core.proofs.Prelude.{abstraction, alone, frame_of, most_steps, PendingCall, spare}
use Rattle.step_core.proofs.runs.Chains.{on_end, on_more}
use Rattle.step_core.proofs.runs.Measures.{Falls, at_end, before_end}
use Rattle.step_core.proofs.world.World.finish_one.Goals as goal

module _ (c : goal.After-add) where
  -- the thread is one of the world's all along
  inside : c.args.number < length c.loop-stepped.self.frame_views
  inside = let a = c.loop-stepped.invariant.on.actors in let w = c.requires.within in omega (arith, a, w)

  one_less : Falls c.args.number c.loop-stepped.self c.advance.new.self
  one_less =
      let s = c.advance.ensures in
      before_end c.args.number c.loop-stepped.self c.advance.new.self c.advance.result s.was s.kept inside s.steps c.in_default.not-Done s.never

pub add-requires : goal.add-requires
add-requires c =
    let s = c.advance.ensures in
    let i = c.loop-stepped.invariant in
    let a = i.on.actors in
    let w = c.requires.within in
    let f = before_end c.args.number c.loop-stepped.self c.advance.new.self c.advance.result s.was s.kept
    (omega (arith, a, w)) s.steps c.in_default.not-Done s.never in
    let first = c.requires.room in
    let before = i.room in
    let capacity = i.capacity in
    let less = f.all in
    let held = f.within in
    omega (arith, first, before, capacity, less, held)

pub loop-stepped-smaller : goal.loop-stepped-smaller
loop-stepped-smaller c = (one_less c).own

pub loop-stepped-preserved : goal.loop-stepped-preserved
loop-stepped-preserved c =
    let s = c.advance.ensures in
    let e = c.add.ensures in
    let l = e.len in
    let room = e.room in
    let less = (one_less c).all in
    let before = c.loop-stepped.invariant.room in
    record {
      on = on_more c.args.number c.args.self.now c.loop-stepped.self c.advance.new.self c.args.steps.now.items c.loop-stepped.steps.items
          c.add.new.steps.items c.advance.result c.loop-stepped.invariant.on s.advances s.actors c.in_default.not-Done
          s.never e.items;
      room = omega (arith, l, less, before);
      capacity = (let first = c.loop-stepped.invariant.capacity in omega (arith, room, first));
    }

pub returns-in-Done-clause-adds : goal.returns-in-Done-clause-adds
returns-in-Done-clause-adds c =
    let e = at_end c.args.number c.loop-stepped.self c.advance.new.self c.in-Done.ensures.was c.in-Done.ensures.steps in
    on_end c.args.number c.args.self.now c.loop-stepped.self c.advance.new.self c.args.steps.now.items c.loop-stepped.steps.items
    c.loop-stepped.invariant.on e.0 e.1

pub returns-in-Done-clause-room : goal.returns-in-Done-clause-room
returns-in-Done-clause-room c =
    let e = at_end c.args.number c.loop-stepped.self c.advance.new.self c.in-Done.ensures.was c.in-Done.ensures.steps in
    let u = c.loop-stepped.self in
    let a = ap (λ (h : PendingCall). alone u.ghost_state (frame_of (abstraction u) c.args.number) h) e.1.pending_call in
    let s = ap spare e.1.pending_call in
    let m = ap most_steps e.0 in
    let r = c.loop-stepped.invariant.room in
    omega (arith, a, s, m, r)
