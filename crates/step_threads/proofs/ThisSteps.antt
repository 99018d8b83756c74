-- What the steps of a thread are that takes a pointer from this.
use Rattle.std.proofs.Common.{◌≡◌, ℕ, Bool, true, false, cond, List, is_some, Some, None, Option}
use Rattle.std.proofs.Common.{option_map, sym, refl, ap, ◌∙◌}
use Rattle.step_threads.proofs.Prelude
use Prelude.{by_word, cond-false, cond-true, event_of, first, frame_settled, FrameView, FromThis}
use Prelude.{ghost_after_step, GhostState, give, Giving, Handle, Idle, inside, is_enabled, is_full}
use Prelude.{Kind, model_state, on, outside, Owner, pending_after, place_in, Rest, row_in, Said}
use Prelude.{said_by_row, silent, slot_pointer, Step, step_of_act, taking, Task, this_as, Weak}
use Prelude.{went}
use Rattle.control_word.specs.declared.refusal.Refusal.TheVariants as refused
use Rattle.step_threads.specs.declared.said.Answer.TheVariants as answer
use Rattle.step_threads.specs.Steps.{asks}

module _ (v : GhostState) (d : ℕ) (w : FrameView) (n : ℕ) (ts : List Task) (k : ℕ) (kind : Kind) where
  -- what is said, and where the thread is, by what the name has inside its object, and whether that gave a pointer
  abbrev pub this_said : Option Handle → Bool → Said
  this_said o got =
      record {
        statement = n;
        answer = cond got None (Some (cond (is_full o) (answer.Refused refused.NotEnabled) (outside (place_in w.slots k))));
        ended = None;
      }

  abbrev pub this_frame : Option Handle → Bool → FrameView
  this_frame o got =
      let y = taking w.slots true (option_map (this_as kind) (cond got o None)) in frame_settled y.0 y.1 w.endings ts

  module _ (o : Option Handle) (got : Bool) (at : inside (slot_pointer w.slots k) ≡ o) (gives : on (is_enabled (model_state v)) false o ≡ got) where
    given : on (is_enabled (model_state v)) false (inside (slot_pointer w.slots k)) ≡ got
    given = ap (on (is_enabled (model_state v)) false) at ∙ gives

    pub this_says : this_said o got ≡ said_by_row n (row_in (by_word v) (model_state v) d w.slots w.taken (FromThis k kind))
    this_says = ap (λ (q : Option Handle). this_said q got) (sym at) ∙ ap (this_said (inside (slot_pointer w.slots k))) (sym given)

    pub this_went : this_frame o got ≡ went (model_state v) d w n ts (FromThis k kind)
    this_went = ap (λ (q : Option Handle). this_frame q got) (sym at) ∙ ap (this_frame (inside (slot_pointer w.slots k))) (sym given)

  -- the first step: the name has nothing to ask
  pub this_none : inside (slot_pointer w.slots k) ≡ None → first v d w n ts (FromThis k kind) ≡ step_of_act v d w n ts (FromThis k kind) None Rest
  this_none at = ap (on (asks v d w n ts k kind) (step_of_act v d w n ts (FromThis k kind) None Rest)) at

  module _ (p : Handle) (at : inside (slot_pointer w.slots k) ≡ Some p) where
    abbrev pub giving : Step
    giving = record { atomic_step = None; pending_call = Giving k kind p; frame_view = w; said = silent n }

    asking : first v d w n ts (FromThis k kind) ≡ asks v d w n ts k kind p
    asking = ap (on (asks v d w n ts k kind) (step_of_act v d w n ts (FromThis k kind) None Rest)) at

    -- the object gives none
    pub this_not : is_enabled (model_state v) p ≡ false → first v d w n ts (FromThis k kind) ≡ step_of_act v d w n ts (FromThis k kind) None Rest
    this_not bare = asking ∙ cond-false (is_enabled (model_state v) p) giving (step_of_act v d w n ts (FromThis k kind) None Rest) bare

    -- or it is taken next
    pub this_gives : is_enabled (model_state v) p ≡ true → first v d w n ts (FromThis k kind) ≡ giving
    this_gives enabled = asking ∙ cond-true (is_enabled (model_state v) p) giving (step_of_act v d w n ts (FromThis k kind) None Rest) enabled

-- the pointer is an event, which moves no block and leaves nothing half done
module _ (v : GhostState) (d : ℕ) (x : Handle) where
  pub give_event : (k : Kind) → is_some (event_of (model_state v) (give k x)) ≡ true
  give_event Owner = refl
  give_event Weak = refl

  pub give_stores : (k : Kind) → (model_state (ghost_after_step v d (give k x))).stores ≡ (model_state v).stores
  give_stores Owner = refl
  give_stores Weak = refl

  pub give_calm : (k : Kind) → pending_after v d (give k x) ≡ Idle
  give_calm Owner = refl
  give_calm Weak = refl
