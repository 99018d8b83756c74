-- A thread's pending call has funds out just where its desk's half-done call owes them.
use Rattle.std.proofs.Common.{◌≡◌, ℕ, ◌<◌, true, List, length, get_or, sym, ap}
use Rattle.step_core.proofs.Prelude
use Prelude.{AllFit, Brought, Checking, Clearing, Empty, Failing, false≢true, Frame, Full}
use Prelude.{GhostState, Giving, is_full, is_owing, is_paying, IsNext, Lacking, Locking, Making}
use Prelude.{Matched, model_state, new_of, Nothing, owing_for, Pending, pending, PendingCall}
use Prelude.{PendingCallFits, pointer_of, Refill, Refilling, Rest, Returning, Saw, Slot, State}
use Prelude.{task_at, Thread, Turning}
use Rattle.step_core.specs.Turning.{has_funds_out}
use Rattle.step_core.proofs.Worlds.{thread_at, world_state}

-- what is brought for an object is owed
brought_pays : (s : State) (a : Slot) (p : Pending Nothing) → p ≡ owing_for s a 256 → is_full (pointer_of a) ≡ true → is_paying p ≡ true
brought_pays s (Empty q) p is full = absurd (false≢true full)
brought_pays s (Full x) p is full = ap is_paying is

pays : (d : ℕ) (h : PendingCall) (c : Frame) (v : GhostState) → PendingCallFits d h c.registers.slots.items (task_at c).act v → IsNext h c
    → is_paying (pending v d) ≡ has_funds_out h
pays d Rest c v fits next = ap is_paying fits
pays d (Making b i f) c v fits next = ap is_paying fits.making.making
pays d (Locking word) c v fits next = ap is_paying fits.0
pays d (Giving i kind x) c v fits next = ap is_paying fits.idle
pays d Brought c v fits next = brought_pays (model_state v) (new_of c.registers.slots.items (task_at c).act) (pending v d) fits next.3
pays d (Saw x) c v fits next = ap is_paying fits.0
pays d (Matched x) c v fits next = brought_pays (model_state v) (new_of c.registers.slots.items (task_at c).act) (pending v d) fits.0 next.3
pays d (Refill Turning y x k) c v fits next = ap is_paying fits.pays
pays d (Refill Checking y x k) c v fits next = ap is_paying fits.pays
pays d (Refill Lacking y x k) c v fits next = ap is_paying fits.pays
pays d (Refill Refilling y x k) c v fits next = ap is_paying fits.pays
pays d (Refill Failing y x k) c v fits next = ap is_paying fits.pays
pays d (Returning kind b funds k) c v fits next = ap is_paying fits.1
pays d Clearing c v fits next = ap is_paying fits

pub owes : (v : GhostState) (threads : List Thread) (n : ℕ) (t : Thread) → AllFit v threads → n < length threads → t ≡ get_or threads n t
    → has_funds_out t.pending_call ≡ is_owing (world_state v threads) n
owes v threads n t all lt read =
    let fits = all.each n t (thread_at threads n t lt read) in sym (pays n t.pending_call t.frame v fits.pending_call fits.next)
