-- What a member of an ending object holds comes out.
use Rattle.std.proofs.Common.{◌≡◌, ℕ, ◌<◌, ◌≤◌, true, false, cond, List, [], ◌∷◌, set, is_some}
use Rattle.std.proofs.Common.{Some, None, Option, sym, refl, ap, ◌∙◌, subst, inr, arith}
use Rattle.step_threads.proofs.Prelude
use Prelude.{Block, CellWord, Clearing, empties, Ending, EndsAll, Event, first_of, FitsThread}
use Prelude.{Frame, frame_view, FrameReady, FrameStill, ghost_after_step, GhostState, gives_back}
use Prelude.{hand, Handle, HasStepped, held_in, HoldsBag, Idle, idle, is_full, IsCarried}
use Prelude.{IsEndingAtStage, IsNext, IsReady, kind_of_member, Member, model_state, NumberedHandle}
use Prelude.{OnCell, owes_after, pending, PendingCall, PendingCallFits, pointer_of, Registers}
use Prelude.{same_Some, seen, silent, Slot, slot_of, slot_pointer, Slots, Stack, staged}
use Prelude.{staged_first, State, Stocks, TableInvariant, TakeOut, task_at, Thread, todo}
use Rattle.control_word.specs.Words.{block_of, blocks_of}
use Rattle.step_table.specs.CellAtomicSteps.{handle_as}
use Rattle.step_table.specs.Contents.{slot_as}
use Rattle.step_threads.specs.Threads.{IsClearingMember}
use Rattle.step_threads.proofs.Carrying.{none_taken}
use Rattle.step_threads.proofs.EndSteps.{cleared_ends, ready_bare}
use Rattle.step_threads.proofs.Hands.{hand_ready, held_hand, still_hand}
use Rattle.step_threads.proofs.Steps.{at_clearing, stepped_as, waits_clearing}
use Rattle.step_threads.proofs.StoreFits.{claims_none, pending_call_back, next_back}

pub none_full : (o : Option Handle) → is_full o ≡ false → o ≡ None
none_full None e = refl
none_full (Some x) e = cc

pub clearing_here : (slots : Slots) (es : List Ending) (e : Ending) → IsClearingMember slots es → first_of es ≡ Some e
    → (e.stage < 3) × (is_full (slot_pointer slots (hand slots)) ≡ false)
clearing_here slots [] e clear is = absurd clear
clearing_here slots (x ∷ xs) e clear is =
    subst (λ (y : Ending). (y.stage < 3) × (is_full (slot_pointer slots (hand slots)) ≡ false)) (same_Some x e is) clear

pub is_clearing : (d : ℕ) (t : Thread) (v : GhostState) → FitsThread d t v → t.pending_call ≡ Clearing
    → IsClearingMember t.frame.registers.slots.items t.frame.endings.list
is_clearing d t v fits pending_call = subst (λ (h : PendingCall). IsNext h t.frame) pending_call fits.next

pub idle_clearing : (d : ℕ) (t : Thread) (v : GhostState) → FitsThread d t v → t.pending_call ≡ Clearing → pending v d ≡ Idle
idle_clearing d t v fits pending_call = subst (λ (h : PendingCall). PendingCallFits d h t.frame.registers.slots.items (task_at t.frame).act v) pending_call
    fits.pending_call

-- what has an object fills a slot
full_as : (s : State) (block : ℕ → ℕ) (h : NumberedHandle) (o : Option ℕ) → is_some (block_of block o) ≡ true
    → is_full (pointer_of (slot_as s h o)) ≡ true
full_as s block h None e = cc
full_as s block h (Some o) e = refl

-- where it has an object it is carried, and else nothing is in hand as before
module _ (c : Frame) (h : Registers) (y : Slot) (e : Ending) (es l : List Ending) (ready : FrameReady c)
    (bare : is_full (slot_pointer c.registers.slots.items (hand c.registers.slots.items)) ≡ false) (is : l ≡ e ∷ es) where
  emptied_ready : (o : Option Block) → (is_some o ≡ true → is_full (pointer_of y) ≡ true)
      → h.slots.items ≡ cond (is_some o) (set c.registers.slots.items (hand c.registers.slots.items) y) c.registers.slots.items
      → IsReady h.slots.items c.taken l (todo c)
  emptied_ready None full slots = subst (λ (z : Slots). IsReady z c.taken l (todo c)) (sym slots) (ready_bare c l ready bare)
  emptied_ready (Some b) full slots =
      let new = set c.registers.slots.items (hand c.registers.slots.items) y in
      let carried : is_full (slot_pointer new (hand new)) ≡ true =
      ap (λ (z : Slot). is_full (pointer_of z)) (held_hand c.registers.slots.items y ready.some) ∙ full refl in
      subst (λ (z : Slots). IsReady z c.taken l (todo c)) (sym slots)
      (hand_ready c.registers.slots.items y c.taken c.endings.list l (todo c) ready
      (λ q. inr (subst (λ (r : List Ending). IsCarried new r) (sym is) carried)))

  emptied_still : (r : Stack) (o : Option Block) → FrameStill c → c.taken ≡ false
      → h.slots.items ≡ cond (is_some o) (set c.registers.slots.items (hand c.registers.slots.items) y) c.registers.slots.items
      → FrameStill (record c { registers = h; endings = r })
  emptied_still r None still none slots = λ lt. ap (λ (z : Slots). idle (task_at c).act z c.taken) slots ∙ still lt
  emptied_still r (Some b) still none slots = still_hand c (record c { registers = h; endings = r }) y ready still none slots refl refl refl

pub fits_emptied : (d : ℕ) (t : Thread) (v : GhostState) (e : Ending) (es : List Ending) (h : Registers) (r : Stack) (q : PendingCall) (n : ℕ) (x : CellWord) →
    TableInvariant v
    → FitsThread d t v → t.pending_call ≡ Clearing → t.frame.endings.list ≡ e ∷ es → IsEndingAtStage d e v → x ≡ seen v (Member e.block e.stage)
    → h.slots.items
    ≡ cond (is_some x.owned)
    (set t.frame.registers.slots.items (hand t.frame.registers.slots.items) (slot_of (model_state v) (held_in (model_state v) (Member e.block e.stage))))
    t.frame.registers.slots.items
    → HoldsBag d h.slots.items (ghost_after_step v d (OnCell (TakeOut e.block e.stage x))) → r.list ≡ staged_first t.frame.endings.list
    → t.frame.endings.room ≤ r.room → q ≡ gives_back (kind_of_member 2 e.stage) n x x.owned
    → FitsThread d (record {
      frame = record t.frame { registers = h; endings = r };
      stock = t.stock;
      pending_call =
          q;
    }) (ghost_after_step v d (OnCell (TakeOut e.block e.stage x)))
fits_emptied d t v e es h r q n x kept fits was list is found slots holds new room back =
    let w = ghost_after_step v d (OnCell (TakeOut e.block e.stage x)) in
    let c = t.frame in
    let k = kind_of_member 2 e.stage in
    let y = slot_of (model_state v) (held_in (model_state v) (Member e.block e.stage)) in
    let handle = held_in (model_state v) (Member e.block e.stage) in
    let clear = subst (λ (l : List Ending). IsClearingMember c.registers.slots.items l) list (is_clearing d t v fits was) in
    let staged_list : r.list ≡ staged e ∷ es = new ∙ ap staged_first list in
    let none = none_taken d c v e es fits.endings list in
    let full : is_some x.owned ≡ true → is_full (pointer_of y) ≡ true =
    (λ some. full_as (model_state v) (blocks_of (model_state v)) handle handle.object (ap (λ (z : CellWord). is_some z.owned) (sym found) ∙ some)) in
    let s : Stocks d t.stock.blocks t.stock.room Clearing v = subst (λ (z : PendingCall). Stocks d t.stock.blocks t.stock.room z v) was fits.stocks in
    subst (λ (z : PendingCall). FitsThread d (record { frame = record c { registers = h; endings = r }; stock = t.stock; pending_call = z }) w) (sym back)
    (record {
      seat = fits.seat;
      holds = holds;
      within = fits.within;
      ready = emptied_ready c h y (staged e) es r.list fits.ready clear.1 staged_list x.owned full slots;
      still = emptied_still c h y (staged e) es r.list fits.ready clear.1 staged_list r x.owned fits.still none slots;
      pending_call = pending_call_back d h.slots.items (task_at c).act w k n x x.owned refl (owes_after v d (TakeOut e.block e.stage x) kept fits.seat);
      next = next_back k n x x.owned (record c { registers = h; endings = r });
      stocks =
          record {
            stocked = λ b. let a = s.stocked b in let behind = claims_none k n x x.owned b in omega (arith, a, behind);
            roomy = s.roomy;
          };
      endings =
          record {
            all = subst (λ (l : List Ending). EndsAll d l w) (sym staged_list)
                (cleared_ends d v e es (handle_as (model_state v) k x) w.words w.views
                (subst (λ (l : List Ending). EndsAll d l v) list fits.endings.all) is clear.0);
            roomy = (let q = fits.endings.roomy in omega (arith, q, room));
            empty = inr none;
          };
      cells = fits.cells;
    })

-- what the step was
pub stepped_emptied : (d : ℕ) (t : Thread) (v w : GhostState) (e : Ending) (es : List Ending) (h : Registers) (r : Stack) (q : PendingCall) (x : CellWord)
    → t.pending_call ≡ Clearing → t.frame.endings.list ≡ e ∷ es → x ≡ seen v (Member e.block e.stage)
    → h.slots.items
    ≡ cond (is_some x.owned)
    (set t.frame.registers.slots.items (hand t.frame.registers.slots.items) (slot_of (model_state v) (held_in (model_state v) (Member e.block e.stage))))
    t.frame.registers.slots.items
    → w ≡ ghost_after_step v d (OnCell (TakeOut e.block e.stage x)) → r.list ≡ staged_first t.frame.endings.list
    → q ≡ gives_back (kind_of_member 2 e.stage) e.statement x x.owned
    → HasStepped d t v (Event (silent e.statement)) (record { frame = record t.frame { registers = h; endings = r }; stock = t.stock; pending_call = q }) w
stepped_emptied d t v w e es h r q x was list found slots ghost_state new back =
    let c = t.frame in
    let old = c.registers.slots.items in
    let full = set old (hand old) (slot_of (model_state v) (held_in (model_state v) (Member e.block e.stage))) in
    stepped_as d t v (empties v (frame_view c) e es) (Event (silent e.statement))
    (record { frame = record c { registers = h; endings = r }; stock = t.stock; pending_call = q }) w (waits_clearing d t v e es list was)
    (at_clearing d t v e es list was) refl (ghost_state ∙ ap (λ (z : CellWord). ghost_after_step v d (OnCell (TakeOut e.block e.stage z))) found)
    (ap (λ (z : Slots). record { slots = z; taken = c.taken; endings = r.list; todo = todo c })
    (slots ∙ ap (λ (z : CellWord). cond (is_some z.owned) full old) found)
    ∙ ap
    (λ (l : List Ending). record { slots = cond (is_some (seen v (Member e.block e.stage)).owned) full old; taken = c.taken; endings = l; todo = todo c })
    (new ∙ ap staged_first list))
    (back ∙ ap (λ (z : CellWord). gives_back (kind_of_member 2 e.stage) e.statement z z.owned) found)
