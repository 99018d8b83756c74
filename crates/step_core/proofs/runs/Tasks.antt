-- How many steps a world has left.
use Rattle.std.proofs.Common.{◌≡◌, ℕ, ◌+◌, ◌-◌, ◌*◌, ◌≤◌, Bool, true, false, cond, List, [], ◌∷◌}
use Rattle.std.proofs.Common.{map, length, slice_get, Some, sum_by, arith}
use Rattle.step_core.proofs.Prelude.{AllFit, Brought, Clearing, frame_steps, GhostState, Giving}
use Rattle.step_core.proofs.Prelude.{left_to_do, length-map, living, Locking, Making, Matched}
use Rattle.step_core.proofs.Prelude.{most_steps, PendingCall, Refill, Rest, Returning, Saw, spare}
use Rattle.step_core.proofs.Prelude.{steps_of, sum_by-cons, TableInvariant, Thread, thread_frame}
use Rattle.step_core.proofs.Prelude.{thread_pending, TotalsAreTold, world_state}
use Rattle.step_core.proofs.telling.Walking.{carried_most}

pub all_steps : (threads : List Thread)
    → (left_to_do (map thread_frame threads) ≤ sum_by steps_of threads + length threads)
    × (sum_by steps_of threads ≤ left_to_do (map thread_frame threads))
all_steps [] = (omega arith, omega arith)
all_steps (t ∷ ts) =
    let a = sum_by-cons frame_steps (thread_frame t) (map thread_frame ts) in
    let b = sum_by-cons steps_of t ts in
    let c = carried_most t.frame.endings.list t.frame.registers.slots.items in
    let i = (all_steps ts).0 in
    let j = (all_steps ts).1 in
    (omega (arith, a, b, c, i), omega (arith, a, b, c, j))

spare_most : (h : PendingCall) → spare h ≤ 22
spare_most Rest = omega arith
spare_most (Making b i differs) = flag differs i
  where
    flag : (f : Bool) (j : ℕ) → 2 * (5 - j) + cond f 1 2 ≤ 22
    flag true j = omega arith
    flag false j = omega arith
spare_most (Locking word) = omega arith
spare_most (Giving i kind x) = omega arith
spare_most Brought = omega arith
spare_most (Saw x) = omega arith
spare_most (Matched x) = omega arith
spare_most (Refill stage c x k) = omega arith
spare_most (Returning kind b funds k) = omega arith
spare_most Clearing = omega arith

spares : (pending_calls : List PendingCall) → sum_by spare pending_calls ≤ 22 * length pending_calls
spares [] = omega arith
spares (h ∷ hs) = let a = sum_by-cons spare h hs in let m = spare_most h in let i = spares hs in omega (arith, a, m, i)

pub enough : (v : GhostState) (threads : List Thread)
    → most_steps (world_state v threads) + 6 * length (map thread_frame threads) ≤ sum_by steps_of threads + 29 * length threads + 13 * living
    (world_state v threads)
enough v threads =
    let a = (all_steps threads).0 in
    let b = spares (map thread_pending threads) in
    let l = length-map threads thread_pending in
    let m = length-map threads thread_frame in
    omega (arith, a, b, l, m)

-- what the totals say of it
pub few_steps : (v : GhostState) (threads : List Thread) (m e : ℕ) → TotalsAreTold (world_state v threads) m e
    → (sum_by steps_of threads + 13 * (m - e) ≤ 8589807616) × (living (world_state v threads) ≡ m - e)
few_steps v threads m e told =
    let a = (all_steps threads).1 in
    let f = told.few in
    let o = told.order in
    let p = told.made in
    let q = told.ended in
    (omega (arith, a, f, o), omega (arith, p, q))

pub within : (v : GhostState) (threads : List Thread) → AllFit v threads → (d : ℕ) (t : Thread) → slice_get threads d ≡ Some t
    → t.frame.at ≤ length t.frame.tasks.items
within v threads all d t at = (all.each d t at).within

pub few_threads : (v : GhostState) (threads : List Thread) (m e : ℕ) → TableInvariant v → TotalsAreTold (world_state v threads) m e → length threads ≤ 64
few_threads v threads m e kept told =
    let l = length-map threads thread_frame in let t = told.threads in let f = kept.proper.few in omega (arith, l, t, f)
