-- What leaves and what ends by an act.
use Rattle.std.proofs.Common.{◌≡◌, ℕ, Bool, false, List, [], ◌∷◌, None, Option, refl, ap, ◌∙◌}
use Rattle.step_core.proofs.Prelude.{Act, Block, by_word, Clear, cond_both, Drop, Ended, ended_by}
use Rattle.step_core.proofs.Prelude.{Ending, exact, frame_settled, FrameView, GhostState, Handle}
use Rattle.step_core.proofs.Prelude.{idle, is_last, Leave, model_state, on, other, Put, row_in}
use Rattle.step_core.proofs.Prelude.{slot_pointer, Slots, slots_idle, State, taken_idle, Task}
use Rattle.step_core.proofs.Prelude.{Telling, went, with_end}
use Rattle.step_threads.specs.Rows.{ending_by}

pub settled_endings : (slots : Slots) (taken : Bool) (es : List Ending) (ts : List Task) → (frame_settled slots taken es ts).endings ≡ es
settled_endings slots taken es [] = refl
settled_endings slots taken es (t ∷ ts) =
    let r = settled_endings (slots_idle t.act slots taken) (taken_idle t.act taken) es ts in
    cond_both (idle t.act slots taken) (frame_settled (slots_idle t.act slots taken) (taken_idle t.act taken) es ts)
    (record { slots = slots; taken = taken; endings = es; todo = t ∷ ts }) (λ (w : FrameView). w.endings ≡ es) (λ e. r) (λ e. refl)

-- the pointer that leaves by an act
abbrev pub leaves_by : Slots → Act → Option Handle
leaves_by slots (Put k) = slot_pointer slots k
leaves_by slots (Leave k) = slot_pointer slots k
leaves_by slots (Clear k) = slot_pointer slots k
leaves_by slots Drop = slot_pointer slots (other slots)
leaves_by slots _ = None

-- the endings where a pointer left by statement k
abbrev pub begun_by : State → ℕ → List Ending → Option Handle → List Ending
begun_by s k es o = with_end k (ending_by (on (is_last s) false o) o) es

-- what the step of an act tells of an object that ends
abbrev pub ends_by : GhostState → ℕ → FrameView → Act → Option Ended
ends_by v d w a = (row_in (by_word v) (model_state v) d w.slots w.taken a).ended

leaves_so : (tell : Telling) (s : State) (d : ℕ) (slots : Slots) (taken : Bool) (a : Act)
    → let y = row_in tell s d slots taken a in
    let o = leaves_by slots a in
    (y.ending ≡ ending_by (on (is_last s) false o) o) × (y.ended ≡ ended_by s o)
leaves_so tell s d slots taken (Put k) = (refl, refl)
leaves_so tell s d slots taken _ = (refl, refl)

pub none_ends : (v : GhostState) (d : ℕ) (w : FrameView) (a : Act) → leaves_by w.slots a ≡ None → ends_by v d w a ≡ None
none_ends v d w a stays = (leaves_so (by_word v) (model_state v) d w.slots w.taken a).1 ∙ ap (ended_by (model_state v)) stays

-- where the thread's endings are after an act
pub act_endings : (s : State) (d k : ℕ) (w : FrameView) (ts : List Task) (a : Act)
    → (went s d w k ts a).endings ≡ begun_by s k w.endings (leaves_by w.slots a)
act_endings s d k w ts a =
    let y = row_in exact s d w.slots w.taken a in
    settled_endings y.slots y.taken (with_end k y.ending w.endings) ts
    ∙ ap (λ (b : Option Block). with_end k b w.endings) (leaves_so exact s d w.slots w.taken a).0
