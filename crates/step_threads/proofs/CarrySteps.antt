-- What a step was that left what came out of a member.
use Rattle.std.proofs.Common.{◌≡◌, ℕ, Bool, true, false, cond, List, ◌∷◌, set, Some, None, Option}
use Rattle.std.proofs.Common.{option_map, sym, ap, ◌∙◌}
use Rattle.step_threads.proofs.Prelude
use Prelude.{atomic_step_is_event, cond-true, Ended, ended_by, Ending, ending_as, ending_by, Event}
use Prelude.{FitsThread, frame_settled, frame_view, ghost_after_step, GhostState, hand, Handle}
use Prelude.{HasStepped, is_full, is_last, Leave, leave, model_state, object_of_block, on, plain}
use Prelude.{Quiet, Registers, remains_as, Rest, Said, slot_pointer, Slots, step_of_act, Stepped}
use Prelude.{Thread, todo, went, with_end}
use Rattle.step_threads.proofs.Carrying.{none_taken}
use Rattle.step_threads.proofs.Hands.{settled_hand}
use Rattle.step_threads.proofs.LeaveSteps.{ended_left, left_event}
use Rattle.step_threads.proofs.Steps.{at_carried, stepped_as, waits_ending}

module _ (d : ℕ) (t t' : Thread) (v w : GhostState) (h : Registers) (x : Handle) (last : Bool) (e : Ending) (es : List Ending) (fits : FitsThread d t v)
    (is : t.frame.endings.list ≡ e ∷ es) (at : slot_pointer t.frame.registers.slots.items (hand t.frame.registers.slots.items) ≡ Some x)
    (said : last ≡ is_last (model_state v) x) (same : t'.frame ≡ record t.frame { registers = h; endings = t'.frame.endings })
    (slots : h.slots.items ≡ set t.frame.registers.slots.items (hand t.frame.registers.slots.items) plain)
    (list : t'.frame.endings.list ≡ with_end e.statement (cond last (ending_as x.kind x) None) t.frame.endings.list) where
  went_carried : frame_view t'.frame ≡ went (model_state v) d (frame_view t.frame) e.statement (todo t.frame) (Leave (hand t.frame.registers.slots.items))
  went_carried =
      let c = t.frame in
      let i = hand c.registers.slots.items in
      let empty = set c.registers.slots.items i plain in
      let l = t'.frame.endings.list in
      let leaves = λ (o : Option Handle). with_end e.statement (ending_by (on (is_last (model_state v)) false o) o) c.endings.list in
      let begun : l ≡ leaves (slot_pointer c.registers.slots.items i) =
      list ∙ ap (λ (b : Bool). with_end e.statement (ending_by b (Some x)) c.endings.list) said ∙ ap leaves (sym at) in
      ap frame_view same
      ∙ ap (λ (z : Slots). record { slots = z; taken = c.taken; endings = l; todo = todo c }) slots
      ∙ sym (settled_hand c plain l fits.within fits.ready fits.still (none_taken d c v e es fits.endings is))
      ∙ ap (λ (r : List Ending). frame_settled empty c.taken r (todo c)) begun

  pub stepped_carried : (ended : Option Ended) (r : Stepped) → t.pending_call ≡ Rest
      → is_full (slot_pointer t.frame.registers.slots.items (hand t.frame.registers.slots.items)) ≡ true
      → w ≡ ghost_after_step v d (leave (model_state v) x)
      → ended ≡ cond last (remains_as x.kind ((model_state w).object (object_of_block w x.block))) None → t'.pending_call ≡ t.pending_call
      → r ≡ Event (record { statement = e.statement; answer = None; ended = ended }) → HasStepped d t v r t' w
  stepped_carried ended r rests full ghost_state left pending_call says =
      let c = t.frame in
      let i = hand c.registers.slots.items in
      let atomic_step = leave (model_state v) x in
      let y : Said = record { statement = e.statement; answer = None; ended = ended_by (model_state v) (slot_pointer c.registers.slots.items i) } in
      let remains : ended ≡ ended_by (model_state v) (slot_pointer c.registers.slots.items i) =
      left ∙ ended_left v w d (Some x) last ghost_state said ∙ ap (ended_by (model_state v)) (sym at) in
      stepped_as d t v (step_of_act v d (frame_view c) e.statement (todo c) (Leave i) (Some atomic_step) Rest) r t' w (waits_ending d t v e es is rests)
      (at_carried d t v e es is rests full
      ∙ ap (λ (o : Option Handle). Some (step_of_act v d (frame_view c) e.statement (todo c) (Leave i) (option_map (leave (model_state v)) o) Rest)) at)
      (says ∙ ap (λ (z : Option Ended). Event (record { statement = e.statement; answer = None; ended = z })) remains
      ∙ sym (cond-true (atomic_step_is_event v (Some atomic_step)) (Event y) (Quiet y) (left_event v x x.kind (is_last (model_state v) x)))) ghost_state
      went_carried
      (pending_call ∙ rests)
