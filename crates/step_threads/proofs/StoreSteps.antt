-- What the steps of a thread are that puts values into cells.
use Rattle.std.proofs.Common.{◌≡◌, ℕ, ◌<◌, Bool, true, false, cond, ◌⊎◌, [], length, is_some}
use Rattle.std.proofs.Common.{slice_set, Some, None, Option, option_map, sym, refl, ap, ◌∙◌}
use Rattle.std.proofs.Common.{⊎_elim}
use Rattle.step_threads.proofs.Prelude
use Prelude.{Act, as_word, brings, Brought, by_word, cell_of_name, CellName, CellWord, done_on}
use Prelude.{Empty, Event, event_of, first, FitsThread, fitting, frame_settled, frame_view, Full}
use Prelude.{ghost_after_step, GhostState, gives_back, Going, going, hand, Handle, HasStepped}
use Prelude.{Idle, is_full, is_there, Kind, kind_at, model_state, Nothing, Offer, offered, on}
use Prelude.{on_going, OnCell, owing_for, Owner, Pending, pending, PendingCall, pointer_of, Quiet}
use Prelude.{refusal, Rest, rest, row_in, Said, said_by_row, seen, sends, share, share_as, silent}
use Prelude.{Slot, slot_pointer, slot_value, Step, step_at, step_of_act, Stepped, task_at, Thread}
use Prelude.{waits, waits_on, Weak, went}
use Rattle.step_table.specs.declared.cell_steps.cell_step.CellStep.TheVariants.{Swap as Swaps}
use Rattle.step_threads.specs.NextSteps.{sent}
use Rattle.step_threads.specs.Steps.{step_of_swap}
use Rattle.step_threads.proofs.Frames.{todo_at}
use Rattle.step_threads.proofs.StoreFits.{pending_call_here}
use Rattle.step_threads.proofs.Named.{refusal_none, told_as, walked_by}
use Rattle.step_threads.proofs.Steps.{at_act, on_slot, says_on, stepped_as, waits_act}

module _ (d : ℕ) (t : Thread) (v : GhostState) (a : Act) (c : CellName) (i : ℕ) (none : t.frame.endings.list ≡ [])
    (lt : t.frame.at < length t.frame.tasks.items) (act : (task_at t.frame).act ≡ a)
    (one : first v d (frame_view t.frame) (task_at t.frame).statement (rest t.frame) a
    ≡ on_going (sends v d (frame_view t.frame) (task_at t.frame).statement (rest t.frame) a)
    (step_of_act v d (frame_view t.frame) (task_at t.frame).statement (rest t.frame) a None Rest) (going t.frame.registers.slots.items a)) where
  -- the first step of one that puts something in
  step_sends : t.pending_call ≡ Rest → going t.frame.registers.slots.items a ≡ Some (c, i)
      → step_at v d t.pending_call (frame_view t.frame) ≡ Some (sends v d (frame_view t.frame) (task_at t.frame).statement (rest t.frame) a c i)
  step_sends e goes =
      let w = frame_view t.frame in
      let n = (task_at t.frame).statement in
      let ts = rest t.frame in
      at_act d t v a e none lt act
      ∙ ap (λ (x : Step). Some x) (one ∙ ap (λ (g : Option Going). on_going (sends v d w n ts a) (step_of_act v d w n ts a None Rest) g) goes)

  pub step_brings : (x : Handle) → t.pending_call ≡ Rest → going t.frame.registers.slots.items a ≡ Some (c, i)
      → slot_pointer t.frame.registers.slots.items i ≡ Some x
      → step_at v d t.pending_call (frame_view t.frame) ≡ Some (brings (frame_view t.frame) (task_at t.frame).statement x)
  step_brings x e goes at =
      let w = frame_view t.frame in
      let n = (task_at t.frame).statement in
      let ts = rest t.frame in
      step_sends e goes ∙ ap (λ (o : Option Handle). Some (on (brings w n) (step_of_swap v d w n ts a c i) o)) at

  -- the swap comes: there is nothing to bring, or it is brought
  pub swaps_here : FitsThread d t v → (t.pending_call ≡ Rest) ⊎ (t.pending_call ≡ Brought) → going t.frame.registers.slots.items a ≡ Some (c, i)
      → pending v d ≡ owing_for (model_state v) (slot_value t.frame.registers.slots.items i) 256
      → step_at v d t.pending_call (frame_view t.frame)
      ≡ Some (step_of_swap v d (frame_view t.frame) (task_at t.frame).statement (rest t.frame) a c i)
  swaps_here fits pending_call goes owes =
      let w = frame_view t.frame in
      let n = (task_at t.frame).statement in
      let ts = rest t.frame in
      ⊎_elim (λ (q : t.pending_call ≡ Rest). step_sends q goes
      ∙ ap (λ (o : Option Handle). Some (on (brings w n) (step_of_swap v d w n ts a c i) o))
      (bare (slot_value w.slots i) (sym (pending_call_here d t v Rest fits q) ∙ owes)))
      (λ (q : t.pending_call ≡ Brought). ap (λ (h : PendingCall). step_at v d h w) q ∙ ap (sent v d w) (todo_at t.frame lt)
      ∙ ap (λ (y : Act). option_map (λ (x : Going). step_of_swap v d w n ts y x.0 x.1) (going w.slots y)) act
      ∙ ap (option_map (λ (x : Going). step_of_swap v d w n ts a x.0 x.1)) goes) pending_call
    where
      bare : (x : Slot) → ◌≡◌ {A = Pending Nothing} Idle (owing_for (model_state v) x 256) → pointer_of x ≡ None
      bare (Empty p) e = refl
      bare (Full y) e = cc

  -- and is the whole of the act
  pub swapped_here : (found : CellWord) (says : Said) (r : Stepped) (t' : Thread) (v' : GhostState) → FitsThread d t v
      → (t.pending_call ≡ Rest) ⊎ (t.pending_call ≡ Brought) → going t.frame.registers.slots.items a ≡ Some (c, i)
      → pending v d ≡ owing_for (model_state v) (slot_value t.frame.registers.slots.items i) 256 → waits_on v (frame_view t.frame) a ≡ false
      → found ≡ seen v (cell_of_name (model_state v) t.frame.registers.slots.items c)
      → says ≡ said_by_row (task_at t.frame).statement (row_in (by_word v) (model_state v) d t.frame.registers.slots.items t.frame.taken a)
      → r ≡ Event says
      → v' ≡ ghost_after_step v d (OnCell (Swaps (cell_of_name (model_state v) t.frame.registers.slots.items c)
      (as_word (slot_value t.frame.registers.slots.items i)) found))
      → frame_view t'.frame ≡ went (model_state v) d (frame_view t.frame) (task_at t.frame).statement (rest t.frame) a
      → t'.pending_call ≡ gives_back (kind_at c) (task_at t.frame).statement found found.owned → HasStepped d t v r t' v'
  swapped_here found says r t' v' fits pending_call goes owes waiting shows same answer ghost_state walked back =
      let w = frame_view t.frame in
      let n = (task_at t.frame).statement in
      let at = cell_of_name (model_state v) w.slots c in
      stepped_as d t v (step_of_swap v d w n (rest t.frame) a c i) r t' v'
      (⊎_elim (λ (q : t.pending_call ≡ Rest). waits_act t v a q none lt act ∙ waiting)
      (λ (q : t.pending_call ≡ Brought). ap (λ (h : PendingCall). waits v h w) q) pending_call)
      (swaps_here fits pending_call goes owes) (answer ∙ ap (λ (s : Said). Event s) same)
      (ghost_state ∙ ap (λ (x : CellWord). ghost_after_step v d (OnCell (Swaps at (as_word (slot_value w.slots i)) x))) shows) walked
      (back ∙ ap (λ (x : CellWord). gives_back (kind_at c) n x x.owned) shows)

pub share_event : (v : GhostState) (x : Handle) (k : Kind) → is_some (event_of (model_state v) (share_as k x)) ≡ true
share_event v x Owner = refl
share_event v x Weak = refl

-- a copy is taken for a cell that is there
pub step_offers : (d : ℕ) (t : Thread) (v : GhostState) (k : ℕ) (c : CellName) → t.pending_call ≡ Rest → t.frame.endings.list ≡ []
    → t.frame.at < length t.frame.tasks.items → (task_at t.frame).act ≡ Offer k c → is_there t.frame.registers.slots.items c ≡ true
    → (b : Bool) (r : Stepped) (t' : Thread) (v' : GhostState)
    → r ≡ cond b (Event (silent (task_at t.frame).statement)) (Quiet (silent (task_at t.frame).statement))
    → b ≡ is_full (offered t.frame.registers.slots.items k c) → v' ≡ done_on share v d (offered t.frame.registers.slots.items k c)
    → frame_view t'.frame ≡ frame_settled
    (slice_set t.frame.registers.slots.items (hand t.frame.registers.slots.items) (fitting (kind_at c) (slot_value t.frame.registers.slots.items k)))
    true t.frame.endings.list (rest t.frame)
    → t'.pending_call ≡ Rest → HasStepped d t v r t' v'
step_offers d t v k c rests none lt act there b r t' v' answer is ghost_state walked pending_call =
    let w = frame_view t.frame in
    let n = (task_at t.frame).statement in
    let ts = rest t.frame in
    let o = offered w.slots k c in
    stepped_as d t v (step_of_act v d w n ts (Offer k c) (option_map share o) Rest) r t' v' (waits_act t v (Offer k c) rests none lt act)
    (at_act d t v (Offer k c) rests none lt act)
    (says_on share v o r (silent n) (told_as n (refusal w.slots c)) b (λ p. share_event v p p.kind) answer is
    (ap (told_as n) (sym (refusal_none w.slots c there))))
    (ghost_state ∙ on_slot share v d o)
    (walked ∙ sym (ap (λ (q : Bool). walked_by w ts
    (cond q (slice_set w.slots (hand w.slots) (fitting (kind_at c) (slot_value w.slots k)), true) (w.slots, w.taken))) there)) pending_call
