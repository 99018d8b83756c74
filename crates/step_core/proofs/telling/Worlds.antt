-- What a world keeps, after a step of one of its threads.
use Rattle.std.proofs.Common.{◌≡◌, ℕ, ◌+◌, ◌<◌, ◌≢◌, List, length, get_or, set, sym, ap, ◌∙◌}
use Rattle.std.proofs.Common.{subst, arith}
use Rattle.step_core.proofs.Prelude
use Prelude.{abstraction, frame_of, get_or-map, GhostState, HasBegun, HasStepped, length-map}
use Prelude.{pending_call_of, PendingCall, Rest, step_ends, step_makes, Stepped, TableInvariant}
use Prelude.{Thread, thread_frame, thread_pending, TotalsAreTold, Waited, world_state}
use Rattle.step_core.proofs.telling.Stepping.{told_by}
use Rattle.step_core.proofs.telling.Waiting.{never_waits}
use Rattle.step_core.proofs.watching.Worlds.{unwatched}
use Rattle.step_core.proofs.Worlds.{steps}

pub told_after : (v w : GhostState) (threads : List Thread) (n : ℕ) (t t' : Thread) (r : Stepped) (m e : ℕ) → TableInvariant v → TableInvariant w
    → HasBegun n (world_state v threads)
    → n < length threads → t ≡ get_or threads n t → HasStepped n t v r t' w → TotalsAreTold (world_state v threads) m e
    → TotalsAreTold (world_state w (set threads n t')) (m + step_makes t.pending_call r) (e + step_ends r)
told_after v w threads n t t' r m e kept after begun lt read moved told =
    let l = length-map threads thread_frame in
    let h : pending_call_of (world_state v threads) n ≡ t.pending_call = get_or-map thread_pending threads n t Rest lt ∙ ap thread_pending (sym read) in
    subst (λ (x : PendingCall). TotalsAreTold (world_state w (set threads n t')) (m + step_makes x r) (e + step_ends r)) h
    (told_by n (world_state v threads) (world_state w (set threads n t')) r m e kept after begun (omega (arith, l)) told
    (steps v w threads n t t' r lt read moved))

-- the same, with the totals as they were computed
pub told_now : (v w : GhostState) (threads : List Thread) (n : ℕ) (t t' : Thread) (r : Stepped) (m e x y : ℕ) → TableInvariant v → TableInvariant w
    → HasBegun n (world_state v threads) → n < length threads → t ≡ get_or threads n t → HasStepped n t v r t' w → TotalsAreTold (world_state v threads) m e
    → x ≡ step_makes t.pending_call r → y ≡ step_ends r
    → TotalsAreTold (world_state w (set threads n t')) (m + x) (e + y)
told_now v w threads n t t' r m e x y kept after begun lt read moved told p q =
    let s = world_state w (set threads n t') in
    subst (λ (k : ℕ). TotalsAreTold s (m + k) (e + y)) (sym p) (subst (λ (k : ℕ). TotalsAreTold s (m + step_makes t.pending_call r) (e + k)) (sym q)
    (told_after v w threads n t t' r m e kept after begun lt read moved told))

-- the step doesn't wait
pub never_now : (v w : GhostState) (threads : List Thread) (n : ℕ) (t t' : Thread) (r : Stepped) (m e : ℕ) → TableInvariant v
    → HasBegun n (world_state v threads)
    → n < length threads → t ≡ get_or threads n t → HasStepped n t v r t' w → TotalsAreTold (world_state v threads) m e → r ≢ Waited
never_now v w threads n t t' r m e kept begun lt read moved told =
    let u = world_state v threads in
    let a = told.threads in
    let b = told.pending_calls in
    let few = kept.proper.few in
    never_waits v n (pending_call_of u n) (frame_of (abstraction u) n) r (unwatched n u begun (omega (arith, a, b, few)) told.watched)
    (steps v w threads n t t' r lt read moved).0
