use Rattle.std.proofs.Common.{◌≡◌, ℕ, ◌-◌, ◌≤◌, length, drop}
use Rattle.step_threads.proofs.Prelude.{frame_settled, GhostState, HoldsBag, IsReady}
use Rattle.step_threads.proofs.frame.Frame.settle.Given as goal

abbrev pub invariant-loop-self : goal.invariant-loop-self
invariant-loop-self l = record {
  same : frame_settled l.self.registers.slots.items l.self.taken l.self.endings.list (drop l.self.at l.self.tasks.items)
      ≡ frame_settled l.initial.self.registers.slots.items l.initial.self.taken l.initial.self.endings.list (drop l.initial.self.at l.initial.self.tasks.items);
  holds : (d : ℕ) (v : GhostState) → HoldsBag d l.initial.self.registers.slots.items v → HoldsBag d l.self.registers.slots.items v;
  ready : IsReady l.self.registers.slots.items l.self.taken l.self.endings.list (drop l.self.at l.self.tasks.items);
  within : l.self.at ≤ length l.self.tasks.items;
  onward : l.initial.self.at ≤ l.self.at;
  tasks : l.self.tasks ≡ l.initial.self.tasks;
  endings : l.self.endings ≡ l.initial.self.endings;
}

abbrev pub decreases-loop-self : goal.decreases-loop-self
decreases-loop-self l = length l.initial.self.tasks.items - l.self.at
