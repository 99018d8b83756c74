use Rattle.std.proofs.Common.{◌≡◌, ℕ, ◌<◌, true, length, sym, ap, ◌∙◌, arith}
use Rattle.step_core.proofs.Prelude.{call_under_way, is_calling}
use Rattle.step_core.proofs.runs.Calls.{calling_on, going_more}
use Rattle.step_core.proofs.runs.Measures.{Falls, before_end}
use Rattle.step_core.proofs.world.World.finish_call.Goals as goal

module _ (c : goal.After-add) where
  inside : c.args.number < length c.loop-self.self.frame_views
  inside = let a = c.loop-self.invariant.on.actors in let w = c.requires.within in omega (arith, a, w)

  goes : is_calling (call_under_way c.args.number c.args.self.now) c.loop-self.self c.args.number ≡ true
  goes =
      ap (λ (k : ℕ). is_calling k c.loop-self.self c.args.number) (sym c.call_under_way-call.ensures)
      ∙ sym c.is_calling.ensures ∙ c.loop-self-test.true

  one_less : Falls c.args.number c.loop-self.self c.advance-stepped.new.self
  one_less =
      let s = c.advance-stepped.ensures in
      let call = call_under_way c.args.number c.args.self.now in
      before_end c.args.number c.loop-self.self c.advance-stepped.new.self c.advance-stepped.result s.was s.kept inside s.steps
      (calling_on call c.args.number c.loop-self.self c.advance-stepped.new.self c.advance-stepped.result s.was s.steps goes) s.never

pub add-requires : goal.add-requires
add-requires c =
    let s = c.advance-stepped.ensures in
    let i = c.loop-self.invariant in
    let a = i.on.actors in
    let w = c.requires.within in
    let call = call_under_way c.args.number c.args.self.now in
    let f = before_end c.args.number c.loop-self.self c.advance-stepped.new.self c.advance-stepped.result s.was s.kept (omega (arith, a, w)) s.steps
    (calling_on call c.args.number c.loop-self.self c.advance-stepped.new.self c.advance-stepped.result s.was s.steps
    (ap (λ (k : ℕ). is_calling k c.loop-self.self c.args.number) (sym c.call_under_way-call.ensures)
    ∙ sym c.is_calling.ensures ∙ c.loop-self-test.true)) s.never in
    let first = c.requires.room in
    let before = i.room in
    let capacity = i.capacity in
    let less = f.all in
    let held = f.within in
    omega (arith, first, before, capacity, less, held)

pub loop-self-smaller : goal.loop-self-smaller
loop-self-smaller c = (one_less c).own

pub loop-self-preserved : goal.loop-self-preserved
loop-self-preserved c =
    let s = c.advance-stepped.ensures in
    let e = c.add.ensures in
    let l = e.len in
    let room = e.room in
    let less = (one_less c).all in
    let before = c.loop-self.invariant.room in
    record {
      on = going_more (call_under_way c.args.number c.args.self.now) c.args.number c.args.self.now c.loop-self.self c.advance-stepped.new.self
          c.args.steps.now.items c.loop-self.steps.items c.add.new.steps.items c.advance-stepped.result c.loop-self.invariant.on (goes c)
          s.advances s.actors s.never e.items;
      room = omega (arith, l, less, before);
      capacity = (let first = c.loop-self.invariant.capacity in omega (arith, room, first));
    }
