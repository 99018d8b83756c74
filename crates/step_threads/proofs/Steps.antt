-- What a step of a thread was, by what the thread had begun.
use Rattle.std.proofs.Common.{◌≡◌, ℕ, ◌<◌, Bool, true, false, cond, List, [], ◌∷◌, length, is_some}
use Rattle.std.proofs.Common.{Some, None, Option, option_map, sym, refl, ap, ◌∙◌, subst}
use Rattle.step_threads.proofs.Prelude
use Prelude.{Act, atomic_step_is_event, AtomicStep, Clearing, cond-true, done_on, empties, Ending}
use Prelude.{Event, event_of, first, frame_by, frame_view, ghost_after, ghost_by, GhostState, hand}
use Prelude.{Handle, HasStepped, is_full, Leave, model_state, pending_call_by, PendingCall, Quiet}
use Prelude.{Rest, rest, Said, slot_pointer, Step, step_at, Stepped, stepped, Task, task_at}
use Prelude.{Thread, todo, Waited, waits, waits_on}
use Rattle.step_threads.specs.NextSteps.{at_rest, begun, emptied, waits_at}
use Rattle.step_threads.specs.Steps.{ends_on}
use Rattle.step_threads.proofs.Frames.{todo_at}

-- a step that is known, and doesn't wait
pub stepped_as : (d : ℕ) (t : Thread) (v : GhostState) (x : Step) (r : Stepped) (t' : Thread) (v' : GhostState) → waits v t.pending_call (frame_view t.frame) ≡
    false
    → step_at v d t.pending_call (frame_view t.frame) ≡ Some x → r ≡ stepped v (Some x) → v' ≡ ghost_after v d x.atomic_step
    → frame_view t'.frame ≡ x.frame_view → t'.pending_call ≡ x.pending_call
    → HasStepped d t v r t' v'
stepped_as d t v x r t' v' goes is answer ghost_state walked pending_call =
    record {
      answer =
          subst (λ (o : Option Step). r ≡ stepped v o) (sym is) answer
          ∙ sym (ap (λ (b : Bool). cond b Waited (stepped v (step_at v d t.pending_call (frame_view t.frame)))) goes);
      ghost_state = subst (λ (o : Option Step). v' ≡ ghost_by v d o) (sym is) ghost_state;
      place = subst (λ (o : Option Step). frame_view t'.frame ≡ frame_by (frame_view t.frame) o) (sym is) walked;
      pending_call = subst (λ (o : Option Step). t'.pending_call ≡ pending_call_by t.pending_call o) (sym is) pending_call;
    }

-- within no act, and without endings, the next act comes
pub at_act : (d : ℕ) (t : Thread) (v : GhostState) (a : Act) → t.pending_call ≡ Rest → t.frame.endings.list ≡ [] → t.frame.at < length t.frame.tasks.items
    → (task_at t.frame).act ≡ a
    → step_at v d t.pending_call (frame_view t.frame) ≡ Some (first v d (frame_view t.frame) (task_at t.frame).statement (rest t.frame) a)
at_act d t v a e none lt act =
    let w = frame_view t.frame in
    ap (λ (h : PendingCall). step_at v d h w) e ∙ ap (λ (es : List Ending). at_rest v d w es) none ∙ ap
    (λ (ts : List Task). begun v d w ts) (todo_at t.frame lt)
    ∙ ap (λ (b : Act). Some (first v d w (task_at t.frame).statement (rest t.frame) b)) act

-- then it is the act that waits, if any
pub waits_act : (t : Thread) (v : GhostState) (a : Act) → t.pending_call ≡ Rest → t.frame.endings.list ≡ [] → t.frame.at < length t.frame.tasks.items
    → (task_at t.frame).act ≡ a → waits v t.pending_call (frame_view t.frame) ≡ waits_on v (frame_view t.frame) a
waits_act t v a e none lt act =
    let w = frame_view t.frame in
    ap (λ (h : PendingCall). waits v h w) e ∙ ap (λ (es : List Ending). waits_at v w es w.todo) none ∙ ap
    (λ (ts : List Task). waits_at v w [] ts) (todo_at t.frame lt)
    ∙ ap (λ (b : Act). waits_on v w b) act

-- within no act, what came out of a member leaves, and with nothing in hand the ending begun last goes on
module _ (d : ℕ) (t : Thread) (v : GhostState) (e : Ending) (es : List Ending) (is : t.frame.endings.list ≡ e ∷ es) where
  at_rest_here : t.pending_call ≡ Rest → step_at v d t.pending_call (frame_view t.frame) ≡ at_rest v d (frame_view t.frame) (e ∷ es)
  at_rest_here r = ap (λ (h : PendingCall). step_at v d h (frame_view t.frame)) r ∙ ap (λ (l : List Ending). at_rest v d (frame_view t.frame) l) is

  pub at_carried : t.pending_call ≡ Rest → is_full (slot_pointer t.frame.registers.slots.items (hand t.frame.registers.slots.items)) ≡ true
      → step_at v d t.pending_call (frame_view t.frame)
      ≡ Some (first v d (frame_view t.frame) e.statement (todo t.frame) (Leave (hand t.frame.registers.slots.items)))
  at_carried r full =
      let w = frame_view t.frame in
      at_rest_here r ∙ ap (λ (x : Step). Some x) (cond-true _ (first v d w e.statement w.todo (Leave (hand w.slots))) (ends_on v w e es) full)

  pub at_clearing : t.pending_call ≡ Clearing → step_at v d t.pending_call (frame_view t.frame) ≡ Some (empties v (frame_view t.frame) e es)
  at_clearing r = ap (λ (h : PendingCall). step_at v d h (frame_view t.frame)) r ∙ ap (λ (l : List Ending). emptied v (frame_view t.frame) l) is

  -- and doesn't wait
  pub waits_ending : t.pending_call ≡ Rest → waits v t.pending_call (frame_view t.frame) ≡ false
  waits_ending r = ap (λ (h : PendingCall). waits v h (frame_view t.frame)) r ∙ ap (λ (l : List Ending). waits_at v (frame_view t.frame) l (todo t.frame)) is

  pub waits_clearing : t.pending_call ≡ Clearing → waits v t.pending_call (frame_view t.frame) ≡ false
  waits_clearing r = ap (λ (h : PendingCall). waits v h (frame_view t.frame)) r

-- an atomic step on what a slot holds is an event where the slot is full
pub on_slot : (f : Handle → AtomicStep) (v : GhostState) (d : ℕ) (o : Option Handle) → done_on f v d o ≡ ghost_after v d (option_map f o)
on_slot f v d None = refl
on_slot f v d (Some x) = refl

pub event_on : (f : Handle → AtomicStep) (v : GhostState) (o : Option Handle) → ((x : Handle) → is_some (event_of (model_state v) (f x)) ≡ true)
    → is_full o ≡ atomic_step_is_event v (option_map f o)
event_on f v None event = refl
event_on f v (Some x) event = sym (event x)

pub says_on : (f : Handle → AtomicStep) (v : GhostState) (o : Option Handle) (r : Stepped) (x y : Said) (b : Bool)
    → ((p : Handle) → is_some (event_of (model_state v) (f p)) ≡ true) → r ≡ cond b (Event x) (Quiet x) → b ≡ is_full o → x ≡ y
    → r ≡ cond (atomic_step_is_event v (option_map f o)) (Event y) (Quiet y)
says_on f v o r x y b event is e same = let k = event_on f v o event in cc
