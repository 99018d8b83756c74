-- How far a frame is: past an idle act, and past an act that was made. All of it is own.
use Rattle.std.specs.Global.{Vec}
use Rattle.std.specs.Prelude.{◌≡◌, ℕ, ◌+◌, ◌<◌, ◌≤◌, length}
use Rattle.step_threads.specs.declared.frame.Frame.{Frame}
use Rattle.step_threads.specs.declared.ending.Endings.{Endings}
use Rattle.step_threads.specs.declared.programs.act.Task.{Task}
use Rattle.step_table.specs.Registers.{HoldsBag}
use Rattle.step_table.specs.GhostStates.{GhostState}
use Rattle.step_threads.specs.Frames.{FrameReady, FrameStill, slots_idle, taken_idle, task_at}

-- past an idle task
pub record IsPassed (a b : Frame) : Type 0 where
  pub slots : b.registers.slots.items ≡ slots_idle (task_at a).act a.registers.slots.items a.taken
  pub taken : b.taken ≡ taken_idle (task_at a).act a.taken
  pub at : b.at ≡ a.at + 1
  pub tasks : b.tasks ≡ a.tasks
  pub endings : b.endings ≡ a.endings
  pub holds : (d : ℕ) (v : GhostState) → HoldsBag d a.registers.slots.items v → HoldsBag d b.registers.slots.items v

-- of these tasks the thread has done more than the first n, and is at a later act, or at its end
pub record IsFurther (d : ℕ) (all : Vec Task) (n : ℕ) (ends : Endings) (c : Frame) (v : GhostState) : Type 0 where
  pub holds : HoldsBag d c.registers.slots.items v
  pub tasks : c.tasks ≡ all
  pub endings : c.endings ≡ ends
  pub within : c.at ≤ length c.tasks.items
  pub onward : n < c.at
  pub ready : FrameReady c
  pub still : FrameStill c

-- the frame is past the act that it was at, of the same tasks and with the same endings
abbrev pub HasGoneOn : ℕ → Frame → Frame → GhostState → Type 0
HasGoneOn d c c' v = IsFurther d c.tasks c.at c.endings c' v
