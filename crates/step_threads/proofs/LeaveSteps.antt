-- What a step was that left what a slot held.
use Rattle.std.proofs.Common.{◌≡◌, ℕ, ◌<◌, Bool, true, false, cond, List, [], length, is_some}
use Rattle.std.proofs.Common.{Some, None, Option, option_map, sym, refl, ap, ◌∙◌}
use Rattle.step_threads.proofs.Prelude
use Prelude.{Act, Answer, Block, by_word, done_on, Ended, ended_by, Ending, ending, ending_by}
use Prelude.{Event, event_of, first, Frame, frame_settled, frame_view, FrameView, ghost_after_step}
use Prelude.{GhostState, Handle, HasStepped, is_full, is_last, Kind, leave, leave_as, model_state}
use Prelude.{moved_to, Object, object_of_block, on, Owner, put_cases, Quiet, remains_as, Rest}
use Prelude.{rest, row_in, Said, said_by_row, Stack, Step, step_of_act, Stepped, task_at, Thread}
use Prelude.{waits_on, Weak, went, with_end, with_endings}
use Rattle.step_table.specs.AtomicSteps.{exact, owned, remains}
use Rattle.step_threads.proofs.Frames.{settled_with}
use Rattle.step_threads.proofs.Endings.{HasLeft}
use Rattle.step_threads.proofs.Steps.{at_act, on_slot, says_on, stepped_as, waits_act}

-- a leave changes nothing of what its object leaves
same_remains : (v : GhostState) (d : ℕ) (x : Handle) (k : Kind) (b : Bool)
    → (let u = ghost_after_step v d (leave_as k x b) in cond b (remains_as k ((model_state u).object (object_of_block u x.block))) None)
    ≡ cond b (remains_as k ((model_state v).object (owned (model_state v) x))) None
same_remains v d x Owner true =
    let o = object_of_block v x.block in
    let y = (model_state v).object o in
    ap (λ (r : Ended). Some r)
    (put_cases (λ j (z : Object). remains z ≡ remains y) (model_state v).object o (moved_to (ending d) y) o (λ e. refl) (λ n. absurd (n refl)))
same_remains v d x Owner false = refl
same_remains v d x Weak true = refl
same_remains v d x Weak false = refl

pub left_event : (v : GhostState) (x : Handle) (k : Kind) (b : Bool) → is_some (event_of (model_state v) (leave_as k x b)) ≡ true
left_event v x Owner b = refl
left_event v x Weak b = refl

some_full : (o : Option Handle) → is_some o ≡ is_full o
some_full None = refl
some_full (Some x) = refl

pub ended_left : (v w : GhostState) (d : ℕ) (o : Option Handle) (last : Bool) → w ≡ done_on (leave (model_state v)) v d o
    → last ≡ on (is_last (model_state v)) false o
    → on (λ x. cond last (remains_as x.kind ((model_state w).object (object_of_block w x.block))) None) None o ≡ ended_by (model_state v) o
ended_left v w d None last is said = refl
ended_left v w d (Some x) last is said =
    ap (λ (u : GhostState). cond last (remains_as x.kind ((model_state u).object (object_of_block u x.block))) None) is
    ∙ ap (λ (b : Bool). let u = ghost_after_step v d (leave (model_state v) x) in
    cond b (remains_as x.kind ((model_state u).object (object_of_block u x.block))) None) said
    ∙ same_remains v d x x.kind (is_last (model_state v) x)

-- where a thread is that left what a slot held
pub went_left : (d : ℕ) (c c' c'' : Frame) (v w : GhostState) (a : Act) (o : Option Handle) (last : Bool) (k : ℕ)
    → HasLeft d c c' c'' w k o last
    → (row_in exact (model_state v) d c.registers.slots.items c.taken a).ending ≡ ending_by (on (is_last (model_state v)) false o) o
    → last ≡ on (is_last (model_state v)) false o
    → frame_view c' ≡ (let x = row_in exact (model_state v) d c.registers.slots.items c.taken a in frame_settled x.slots x.taken c.endings.list (rest c))
    → frame_view c'' ≡ went (model_state v) d (frame_view c) k (rest c) a
went_left d c c' c'' v w a o last k has ends said walked =
    let x = row_in exact (model_state v) d c.registers.slots.items c.taken a in
    let es = c.endings.list in
    let l = c''.endings.list in
    let e : c'.endings.list ≡ es = ap (λ (z : Stack). z.list) has.gone.endings in
    let list : l ≡ with_end k x.ending es =
    has.list ∙ ap (with_end k (ending_by last o)) e ∙ ap (λ (b : Bool). with_end k (ending_by b o) es) said
    ∙ ap (λ (q : Option Block). with_end k q es) (sym ends) in
    ap frame_view has.same ∙ ap (λ (z : FrameView). with_endings z l) walked ∙ settled_with x.slots x.taken es l (rest c) ∙ ap
    (λ (r : List Ending). frame_settled x.slots x.taken r (rest c)) list

-- a step that left what a slot held, and what is said of it
pub stepped_left : (d : ℕ) (t t' : Thread) (v w : GhostState) (r : Stepped) (a : Act) (o : Option Handle) (last : Bool) (ended : Option Ended) (k : ℕ)
    → k ≡ (task_at t.frame).statement → t.pending_call ≡ Rest → t.frame.endings.list ≡ [] → t.frame.at < length t.frame.tasks.items
    → (task_at t.frame).act ≡ a
    → waits_on v (frame_view t.frame) a ≡ false
    → first v d (frame_view t.frame) (task_at t.frame).statement (rest t.frame) a
    ≡ step_of_act v d (frame_view t.frame) (task_at t.frame).statement (rest t.frame) a (option_map (leave (model_state v)) o) Rest
    → (row_in (by_word v) (model_state v) d t.frame.registers.slots.items t.frame.taken a).answer ≡ None
    → (row_in (by_word v) (model_state v) d t.frame.registers.slots.items t.frame.taken a).ended ≡ ended_by (model_state v) o
    → w ≡ done_on (leave (model_state v)) v d o → last ≡ on (is_last (model_state v)) false o
    → ended ≡ on (λ x. cond last (remains_as x.kind ((model_state w).object (object_of_block w x.block))) None) None o
    → t'.pending_call ≡ t.pending_call → frame_view t'.frame ≡ went (model_state v) d (frame_view t.frame) k (rest t.frame) a
    → r ≡ cond (is_some o) (Event (record { statement = k; answer = None; ended = ended })) (Quiet (record { statement = k; answer = None; ended = ended }))
    → HasStepped d t v r t' w
stepped_left d t t' v w r a o last ended k number rests none lt act goes one silent ends is said left pending_call walked says =
    let n = (task_at t.frame).statement in
    let z = row_in (by_word v) (model_state v) d t.frame.registers.slots.items t.frame.taken a in
    let y = said_by_row n z in
    let e : ended ≡ z.ended = left ∙ ended_left v w d o last is said ∙ sym ends in
    let same : ◌≡◌ {A = Said} (record { statement = k; answer = None; ended = ended }) y =
    ap (λ (m : ℕ). record { statement = m; answer = None; ended = ended }) number
    ∙ ap (λ (q : Option Ended). record { statement = n; answer = None; ended = q }) e
    ∙ ap (λ (q : Option Answer). record { statement = n; answer = q; ended = z.ended }) (sym silent) in
    stepped_as d t v (step_of_act v d (frame_view t.frame) n (rest t.frame) a (option_map (leave (model_state v)) o) Rest) r t' w
    (waits_act t v a rests none lt act ∙ goes) (at_act d t v a rests none lt act ∙ ap (λ (x : Step). Some x) one)
    (says_on (leave (model_state v)) v o r _ y (is_some o) (λ x. left_event v x x.kind (is_last (model_state v) x)) says (some_full o) same)
    (is ∙ on_slot (leave (model_state v)) v d o) (walked ∙ ap (λ (m : ℕ). went (model_state v) d (frame_view t.frame) m (rest t.frame) a) number)
    (pending_call ∙ rests)
