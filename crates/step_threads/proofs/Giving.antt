-- A thread that asks an object for a pointer fits the table.
use Rattle.std.proofs.Common.{◌≡◌, ℕ, ◌<◌, true, false, [], length, Some, subst, inl}
use Rattle.step_threads.proofs.Prelude.{Act, FitsThread, Frame, FrameReady, FromThis, GhostState}
use Rattle.step_threads.proofs.Prelude.{Giving, Handle, Idle, inside, inside_held, is_enabled}
use Rattle.step_threads.proofs.Prelude.{IsReady, Kind, MayComeNext, model_state, other, pending}
use Rattle.step_threads.proofs.Prelude.{PendingCall, PendingCallFits, Rest, rest, slot_pointer}
use Rattle.step_threads.proofs.Prelude.{taken_after, task_at, TasksMayCome, Thread}
use Rattle.step_threads.proofs.Frames.{owed_by, ready_any, ready_head}
use Rattle.step_threads.proofs.Threads.{resting}

-- a pointer from this that is refused takes nothing
pub refused_this : (c : Frame) (k : ℕ) (q : Kind) → c.at < length c.tasks.items → FrameReady c → (task_at c).act ≡ FromThis k q
    → IsReady c.registers.slots.items false c.endings.list (rest c)
refused_this c k q lt ready act =
    let h = ready_head c lt ready in
    let n = other c.registers.slots.items in
    let b : MayComeNext n c.taken (FromThis k q) = subst (MayComeNext n c.taken) act h.0 in
    let r : TasksMayCome n true (rest c) = subst (λ (a : Act). TasksMayCome n (taken_after a c.taken) (rest c)) act h.2 in
    record {
      some = ready.some;
      free = λ e. ready.free b.1;
      owes = inl (owed_by c (FromThis k q) lt ready act (λ e. e));
      ready = ready_any n (rest c) r;
    }

-- the object was asked, and gives pointers to itself
pub fits_asked : (d : ℕ) (t : Thread) (v : GhostState) (i : ℕ) (q : Kind) (x : Handle) → FitsThread d t v → t.pending_call ≡ Rest → t.frame.endings.list ≡ []
    → t.frame.at < length t.frame.tasks.items
    → (task_at t.frame).act ≡ FromThis i q → inside (slot_pointer t.frame.registers.slots.items i) ≡ Some x → is_enabled (model_state v) x ≡ true
    → FitsThread d (record { frame = t.frame; stock = t.stock; pending_call = Giving i q x }) v
fits_asked d t v i q x fits e none lt act at enabled =
    let s = resting d t v fits e in
    let idle : pending v d ≡ Idle = subst (λ (h : PendingCall). PendingCallFits d h t.frame.registers.slots.items (task_at t.frame).act v) e fits.pending_call
    in
    record {
      seat = fits.seat;
      holds = fits.holds;
      within = fits.within;
      ready = fits.ready;
      still = fits.still;
      pending_call = record { idle = idle; has = inside_held d t.frame.registers.slots.items v i x fits.holds at; enabled = enabled };
      next = (lt, act, at, none);
      stocks = record { stocked = s.stocked; roomy = s.roomy };
      endings = fits.endings;
      cells = fits.cells;
    }
