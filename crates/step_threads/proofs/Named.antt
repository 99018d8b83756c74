-- The names of the cells of acts are slots, and an act on a cell that is there isn't refused.
use Rattle.std.proofs.Common.{◌≡◌, ℕ, ◌<◌, Bool, true, List, length, Some, None, Option, refl}
use Rattle.std.proofs.Common.{subst}
use Rattle.step_threads.proofs.Prelude.{Act, Answer, CellName, Compare, cond-true, Frame}
use Rattle.step_threads.proofs.Prelude.{frame_settled, FrameReady, FrameView, Hands, is_there}
use Rattle.step_threads.proofs.Prelude.{IsNamed, Load, MayComeNext, other, outside, place_in}
use Rattle.step_threads.proofs.Prelude.{refusal, Said, Slots, Task, task_at}
use Rattle.step_threads.specs.declared.programs.call.CellName.TheVariants.{Shared, Weak, Member}
use Rattle.step_threads.proofs.CellNames.{cell_named}
use Rattle.step_threads.proofs.Frames.{ready_head}

module _ (c : Frame) (x : CellName) (lt : c.at < length c.tasks.items) (ready : FrameReady c) where
  begins : (a : Act) → (task_at c).act ≡ a → MayComeNext (other c.registers.slots.items) c.taken a
  begins a act = subst (MayComeNext (other c.registers.slots.items) c.taken) act (ready_head c lt ready).0

  pub named_load : (task_at c).act ≡ Load x → IsNamed (length c.registers.slots.items) x
  named_load act = cell_named c.registers.slots.items x (begins (Load x) act).0

  pub named_compare : (k : ℕ) (weak : Bool) → (task_at c).act ≡ Compare k x weak → IsNamed (length c.registers.slots.items) x
  named_compare k weak act = cell_named c.registers.slots.items x (begins (Compare k x weak) act).1

abbrev pub told_as : ℕ → Option Answer → Said
told_as n a = record { statement = n; answer = a; ended = None }

-- where a thread is that has this in its slots
abbrev pub walked_by : FrameView → List Task → Hands → FrameView
walked_by w ts y = frame_settled y.0 y.1 w.endings ts

pub refusal_none : (slots : Slots) (c : CellName) → is_there slots c ≡ true → refusal slots c ≡ None
refusal_none slots (Shared n) there = refl
refusal_none slots (Weak n) there = refl
refusal_none slots (Member k m) there = cond-true (is_there slots (Member k m)) None (Some (outside (place_in slots k.0))) there
