use Rattle.std.proofs.Common.{◌≡◌, ◌<◌, true, length, sym, ◌∙◌, arith}
use Rattle.step_threads.proofs.Prelude.{idle, task_at}
use Rattle.step_threads.proofs.Frames.{passed_ready, passed_same, passed_within}
use Rattle.step_threads.proofs.frame.Frame.settle.Goals as goal

pub loop-self-preserved : goal.loop-self-preserved
loop-self-preserved c =
    let a = c.loop-self.self in
    let x = c.loop-self.invariant in
    let b = c.pass.new.self in
    let p = c.pass.ensures in
    let lt : a.at < length a.tasks.items = let l = c.loop-self-test.true in let e = c.len.ensures in omega (arith, l, e) in
    let i : idle (task_at a).act a.registers.slots.items a.taken ≡ true = sym c.is_idle.ensures ∙ c.if-is_idle.true in
    record {
      same = passed_same a b lt i p ∙ x.same;
      holds = λ d v h. p.holds d v (x.holds d v h);
      ready = passed_ready a b lt i p x.ready;
      within = passed_within a b lt p;
      onward = let q = p.at in let o = x.onward in omega (arith, q, o);
      tasks = p.tasks ∙ x.tasks;
      endings = p.endings ∙ x.endings;
    }
