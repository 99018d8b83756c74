-- What a leave makes of a thread's store and endings, so that it fits the table.
use Rattle.std.proofs.Common.{◌≡◌, ℕ, ◌+◌, ◌<◌, ◌≤◌, Bool, true, false, cond, List, [], ◌∷◌}
use Rattle.std.proofs.Common.{length, ◌==◌, Some, None, Option, sym, refl, ap, ◌∙◌, subst, inl}
use Rattle.std.proofs.Common.{inr, arith}
use Rattle.step_threads.proofs.Prelude
use Prelude.{Block, cond-true, done_on, Ending, ending, ending_as, ending_busy, ending_by, EndsAll}
use Prelude.{Finish, FitsThread, Frame, FrameReady, ghost_after_step, GhostState, Handle}
use Prelude.{handle_busy, HasGoneOn, HoldsBag, Idle, in_store, is_last, IsEndingAtStage, IsReady}
use Prelude.{IsStocked, IsStockedBy, Kind, leave, leave_as, model_state, moved_to, num_cons}
use Prelude.{Object, object_of_block, on, Owner, pending, PendingCall, PendingCallFits, Place}
use Prelude.{put_cases, Rest, same_stored, Stack, Stocks, stored, StoreView, sum_by-cons}
use Prelude.{sum_by_pushed, TableInvariant, task_at, there, Thread, todo, Weak, WeakLeave}
use Prelude.{with_end}
use Rattle.step_table.specs.declared.memory.ghost_history.AtomicStep.TheVariants.{Leave}
use Rattle.step_threads.proofs.Frames.{hand_plain}
use Rattle.step_threads.proofs.holding.Few.{store_room}
use Rattle.step_threads.specs.Stocks.{HasRoomFor}
use Rattle.step_threads.proofs.Threads.{cells_on, own_pending, resting}
use Rattle.step_threads.proofs.holding.Ends.{ends_none, ends_nothing, ends_one}
use Rattle.step_threads.proofs.holding.Storing.{one_stored}

pub finished_store : (d : ℕ) (v : GhostState) (b : Block) (c : ℕ) → ((model_state v).object (object_of_block v b)).block ≡ b.0
    → in_store (model_state (ghost_after_step v d (Finish b true))) d c ≡ cond (b.0 == c) 1 0 + in_store (model_state v) d c
finished_store d v b c at =
    let y = ((model_state v).object (object_of_block v b)).block in
    let a = num_cons (same_stored (stored d c)) (stored d y) (model_state v).stores in
    let o = one_stored d y c in
    let e : ◌≡◌ {A = ℕ} (cond (y == c) 1 0) (cond (b.0 == c) 1 0) = ap (λ (k : ℕ). cond (k == c) 1 0) at in
    omega (arith, a, o, e)

-- a block that is vacant again has room in the store
pub room_left : (d : ℕ) (t : Thread) (v : GhostState) (e : Ending) → TableInvariant v → TableInvariant (ghost_after_step v d (Finish e.block true))
    → FitsThread d t v
    → t.pending_call ≡ Rest
    → IsEndingAtStage d e v → HasRoomFor t.stock e.block.0
room_left d t v e kept kept' fits rests is =
    let b = e.block in
    let at = (there v b kept (ending_busy v d b is.ending)).0 in
    let s = resting d t v fits rests in
    store_room d (ghost_after_step v d (Finish b true)) b.0 t.stock kept'
    (λ c. let g = finished_store d v b c at in let a = sum_by-cons (λ (y : ℕ). cond (y == c) 1 0) b.0 t.stock.blocks in
    let o = s.stocked c in omega (arith, g, a, o))
    s.roomy

-- the object whose last owner leaves is ending in the desk's hands
pub left_ending : (v : GhostState) (d : ℕ) (x : Handle) (last : Bool) → last ≡ true
    → let w = ghost_after_step v d (Leave x.block x.place last) in ((model_state w).object (object_of_block w x.block)).phase ≡ ending d
left_ending v d x last is =
    let o = object_of_block v x.block in
    let y = (model_state v).object o in
    put_cases (λ j (z : Object). z.phase ≡ ending d) (model_state v).object o (cond last (moved_to (ending d) y) y) o
    (λ e. ap (λ (z : Object). z.phase) (cond-true last (moved_to (ending d) y) y is)) (λ n. absurd (n refl))

-- where a pointer leaves that was the last owner, its object is ending in the desk's hands
pub ending_left : (v w : GhostState) (d : ℕ) (o : Option Handle) (last : Bool) (x : Handle) → w ≡ done_on (leave (model_state v)) v d o
    → last ≡ on (is_last (model_state v)) false o → o ≡ Some x → x.kind ≡ Owner → last ≡ true
    → ((model_state w).object (object_of_block w x.block)).phase ≡ ending d
ending_left v w d o last x is said at kind t =
    subst (λ (u : GhostState). ((model_state u).object (object_of_block u x.block)).phase ≡ ending d) (sym (is ∙ ap (done_on (leave (model_state v)) v d) at))
    (go x.kind kind (is_last (model_state v) x) (sym (said ∙ ap (on (is_last (model_state v)) false) at) ∙ t))
  where
    go : (k : Kind) → k ≡ Owner → (b : Bool) → b ≡ true → let u = ghost_after_step v d (leave_as k x b) in
        ((model_state u).object (object_of_block u x.block)).phase ≡ ending d
    go Owner e b t = left_ending v d x b t
    go Weak e b t = cc

-- a block that is vacant by a weak pointer's leave comes into the store
left_store : (d : ℕ) (v : GhostState) (b : Block) (p : Option Place) (c : ℕ) → ((model_state v).object (object_of_block v b)).block ≡ b.0
    → in_store (model_state (ghost_after_step v d (WeakLeave b p true))) d c ≡ cond (b.0 == c) 1 0 + in_store (model_state v) d c
left_store d v b p c at =
    let y = ((model_state v).object (object_of_block v b)).block in
    let a = num_cons (same_stored (stored d c)) (stored d y) (model_state v).stores in
    let o = one_stored d y c in
    let e : ◌≡◌ {A = ℕ} (cond (y == c) 1 0) (cond (b.0 == c) 1 0) = ap (λ (k : ℕ). cond (k == c) 1 0) at in
    omega (arith, a, o, e)

left_place : (d : ℕ) (v : GhostState) (b : Block) (p : Option Place) (vacant : Bool) → TableInvariant v
    → TableInvariant (ghost_after_step v d (WeakLeave b p vacant))
    → ((model_state v).object (object_of_block v b)).block ≡ b.0
left_place d v b p vacant kept kept' = (there v b kept (handle_busy v d Weak b p kept kept'.stands.legal.1.asks.0.0)).0

-- it has room there
pub room_weak : (v w : GhostState) (d : ℕ) (t : Thread) (o : Option Handle) (last : Bool) (x : Handle) → TableInvariant v → TableInvariant w → FitsThread d t v
    → t.pending_call ≡ Rest
    → w ≡ done_on (leave (model_state v)) v d o → last ≡ on (is_last (model_state v)) false o → o ≡ Some x → x.kind ≡ Weak → last ≡ true
    → HasRoomFor t.stock x.block.0
room_weak v w d t o last x kept kept' fits e is said at kind ended =
    go x.kind kind (is_last (model_state v) x) (sym (said ∙ ap (on (is_last (model_state v)) false) at) ∙ ended)
    (subst (λ (u : GhostState). TableInvariant u) (is ∙ ap (done_on (leave (model_state v)) v d) at) kept')
  where
    go : (k : Kind) → k ≡ Weak → (b : Bool) → b ≡ true → TableInvariant (ghost_after_step v d (leave_as k x b)) → HasRoomFor t.stock x.block.0
    go Owner e b q kept' = cc
    go Weak k b q kept' =
        let later : TableInvariant (ghost_after_step v d (WeakLeave x.block x.place true)) =
        subst (λ (z : Bool). TableInvariant (ghost_after_step v d (WeakLeave x.block x.place z))) q kept' in
        let s = resting d t v fits e in
        store_room d (ghost_after_step v d (WeakLeave x.block x.place true)) x.block.0 t.stock later
        (λ c. let g = left_store d v x.block x.place c (left_place d v x.block x.place true kept later) in
        let a = sum_by-cons (λ (y : ℕ). cond (y == c) 1 0) x.block.0 t.stock.blocks in
        let o = s.stocked c in omega (arith, g, a, o))
        s.roomy

-- there is room for its ending
pub begins_room : (v w : GhostState) (d : ℕ) (t : Thread) (c : Frame) (o : Option Handle) (last : Bool) (x : Handle) → TableInvariant w → FitsThread d t v
    → t.frame.endings.list ≡ [] → c.endings ≡ t.frame.endings → w ≡ done_on (leave (model_state v)) v d o
    → last ≡ on (is_last (model_state v)) false o → o ≡ Some x → x.kind ≡ Owner → last ≡ true → length c.endings.list < c.endings.room
begins_room v w d t c o last x kept' fits none same is said at kind ended =
    let phase = ending_left v w d o last x is said at kind ended in
    let place = (there w x.block kept' (ending_busy w d x.block phase)).1 in
    let extent : w.extent.shape.blocks ≡ v.extent.shape.blocks = ap (λ (u : GhostState). u.extent.shape.blocks) is ∙ same_extent v d o in
    let r = fits.endings.roomy in
    let e : length c.endings.list ≡ 0 = ap (λ (z : Stack). length z.list) same ∙ ap length none in
    let q : c.endings.room ≡ t.frame.endings.room = ap (λ (z : Stack). z.room) same in
    let low = place.0 in let high = place.1 in omega (arith, low, high, extent, r, e, q)
  where
    same_extent : (v : GhostState) (d : ℕ) (o : Option Handle) → (done_on (leave (model_state v)) v d o).extent.shape.blocks ≡ v.extent.shape.blocks
    same_extent v d None = refl
    same_extent v d (Some x) = refl

-- the stock after a pointer left
pub stocks_left : (d : ℕ) (t : Thread) (v : GhostState) (x : Handle) (s : StoreView) (k : Kind) (b : Bool) → TableInvariant v → FitsThread d t v
    → t.pending_call ≡ Rest
    → TableInvariant (ghost_after_step v d (leave_as k x b)) → IsStocked k x.block.0 b t.stock s
    → Stocks d s.blocks s.room Rest (ghost_after_step v d (leave_as k x b))
stocks_left d t v x s Owner b kept fits e kept' is =
    let y = resting d t v fits e in subst (λ (z : StoreView). Stocks d z.blocks z.room Rest (ghost_after_step v d (leave_as Owner x b))) (sym is)
    (record { stocked = y.stocked; roomy = y.roomy })
stocks_left d t v x s Weak true kept fits e kept' is =
    let y = resting d t v fits e in
    record {
      stocked = λ c.
          let g = left_store d v x.block x.place c (left_place d v x.block x.place true kept kept') in
          let a = sum_by_pushed (λ (y : ℕ). cond (y == c) 1 0) x.block.0 t.stock.blocks s.blocks is.0 in
          let o = y.stocked c in omega (arith, g, a, o);
      roomy = (let r = y.roomy in let q = is.1 in omega (arith, r, q));
    }
stocks_left d t v x s Weak false kept fits e kept' is =
    let y = resting d t v fits e in subst (λ (z : StoreView). Stocks d z.blocks z.room Rest (ghost_after_step v d (leave_as Weak x false))) (sym is)
    (record { stocked = y.stocked; roomy = y.roomy })

pub idle_left : (d : ℕ) (t : Thread) (v : GhostState) (x : Handle) (k : Kind) (b : Bool) → TableInvariant v → FitsThread d t v
    → pending (ghost_after_step v d (leave_as k x b)) d ≡ Idle
idle_left d t v x Owner b kept fits = own_pending v d (Leave x.block x.place b) kept fits.seat
idle_left d t v x Weak b kept fits = own_pending v d (WeakLeave x.block x.place b) kept fits.seat

-- the endings after it: none before, and at most its own
ends_left : (d : ℕ) (v : GhostState) (x : Handle) (k : Kind) (b : Bool) (n : ℕ)
    → EndsAll d (with_end n (cond b (ending_as k x) None) []) (ghost_after_step v d (leave_as k x b))
ends_left d v x Owner true n =
    ends_one d (ghost_after_step v d (Leave x.block x.place true)) (record { block = x.block; stage = 0; statement = n })
    (record { ending = left_ending v d x true refl; within = omega arith; cleared = λ m lt. absurd (omega arith) })
ends_left d v x Owner false n = ends_nothing d (ghost_after_step v d (Leave x.block x.place false))
ends_left d v x Weak true n = ends_nothing d (ghost_after_step v d (WeakLeave x.block x.place true))
ends_left d v x Weak false n = ends_nothing d (ghost_after_step v d (WeakLeave x.block x.place false))

-- with no endings the hand is plain, so others may come
ready_ends : (c : Frame) (es : List Ending) → FrameReady c → c.endings.list ≡ [] → IsReady c.registers.slots.items c.taken es (todo c)
ready_ends c es ready none = record { some = ready.some; free = λ e. inl (hand_plain c ready none e); owes = ready.owes; ready = ready.ready }

-- what a leave made of the frame: it went on, and an ending begins perhaps
pub record HasLeft (d : ℕ) (c c' c'' : Frame) (w : GhostState) (n : ℕ) (o : Option Handle) (last : Bool) : Type 0 where
  pub gone : HasGoneOn d c c' w
  pub empty : c'.taken ≡ false
  pub same : c'' ≡ record c' { endings = c''.endings }
  pub list : c''.endings.list ≡ with_end n (ending_by last o) c'.endings.list
  pub roomy : c'.endings.room ≤ c''.endings.room

fits_leaving : (d : ℕ) (t : Thread) (v : GhostState) (c : Frame) (r : Stack) (s : StoreView) (n : ℕ) (x : Handle) (k : Kind) (b : Bool) → TableInvariant v
    → FitsThread d t v
    → t.pending_call ≡ Rest → t.frame.endings.list ≡ [] → TableInvariant (ghost_after_step v d (leave_as k x b))
    → HasGoneOn d t.frame c (ghost_after_step v d (leave_as k x b))
    → c.taken ≡ false → r.list ≡ with_end n (cond b (ending_as k x) None) c.endings.list → c.endings.room ≤ r.room
    → IsStocked k x.block.0 b t.stock s
    → FitsThread d (record { frame = record c { endings = r }; stock = s; pending_call = Rest }) (ghost_after_step v d (leave_as k x b))
fits_leaving d t v c r s n x k b kept fits e none kept' on empty list room is =
    let w = ghost_after_step v d (leave_as k x b) in
    let nothing : c.endings.list ≡ [] = ap (λ (z : Stack). z.list) on.endings ∙ none in
    record {
      seat = fits.seat;
      holds = on.holds;
      within = on.within;
      ready = ready_ends c r.list on.ready nothing;
      still = on.still;
      pending_call = idle_left d t v x k b kept fits;
      next = tt;
      stocks = stocks_left d t v x s k b kept fits e kept' is;
      endings =
          record {
            all = subst (λ (l : List Ending). EndsAll d l w) (sym (list ∙ ap (λ (l : List Ending). with_end n (cond b (ending_as k x) None) l) nothing))
                (ends_left d v x k b n);
            roomy = (let q = fits.endings.roomy in let z : c.endings.room ≡ t.frame.endings.room = ap (λ (y : Stack). y.room) on.endings in
                omega (arith, q, z, room));
            empty = inr empty;
          };
      cells = cells_on d t.frame c (ghost_after_step v d (leave_as k x b)) on fits.cells;
    }

-- a thread after it left what a slot held
pub fits_left : (d : ℕ) (t t' : Thread) (v w : GhostState) (c : Frame) (n : ℕ) (o : Option Handle) (last : Bool) → TableInvariant v → TableInvariant w
    → FitsThread d t v → t.pending_call ≡ Rest
    → t.frame.endings.list ≡ [] → w ≡ done_on (leave (model_state v)) v d o → last ≡ on (is_last (model_state v)) false o
    → HasLeft d t.frame c t'.frame w n o last → t'.pending_call ≡ t.pending_call → IsStockedBy o last t.stock t'.stock → FitsThread d t' w
fits_left d t t' v w c n None last kept kept' fits e none is said left pending_call stock =
    let idle : PendingCallFits d Rest t.frame.registers.slots.items (task_at t.frame).act v =
    subst (λ (h : PendingCall). PendingCallFits d h t.frame.registers.slots.items (task_at t.frame).act v) e fits.pending_call in
    let r = t'.frame.endings in
    let nothing : r.list ≡ [] = left.list ∙ ap (λ (z : Stack). z.list) left.gone.endings ∙ none in
    let room : t.frame.endings.room ≤ r.room = let z : c.endings.room ≡ t.frame.endings.room = ap (λ (y : Stack). y.room) left.gone.endings in
    let q = left.roomy in omega (arith, z, q) in
    subst (λ (k : Frame). FitsThread d (record { frame = k; stock = t'.stock; pending_call = t'.pending_call }) w) (sym left.same)
    (subst (λ (h : PendingCall). FitsThread d (record { frame = record c { endings = r }; stock = t'.stock; pending_call = h }) w) (sym (pending_call ∙ e))
    (subst (λ (u : GhostState). FitsThread d (record { frame = record c { endings = r }; stock = t'.stock; pending_call = Rest }) u) (sym is)
    (subst (λ (s : StoreView). FitsThread d (record { frame = record c { endings = r }; stock = s; pending_call = Rest }) v) (sym stock)
    (record {
      seat = fits.seat;
      holds = subst (λ (u : GhostState). HoldsBag d c.registers.slots.items u) is left.gone.holds;
      within = left.gone.within;
      ready = ready_ends c r.list left.gone.ready (ap (λ (z : Stack). z.list) left.gone.endings ∙ none);
      still = left.gone.still;
      pending_call = idle;
      next = tt;
      stocks = resting d t v fits e;
      endings = ends_none d (record c { endings = r }) v nothing (let q = fits.endings.roomy in omega (arith, q, room));
      cells = cells_on d t.frame c v (subst (λ (u : GhostState). HasGoneOn d t.frame c u) is left.gone) fits.cells;
    }))))
fits_left d t t' v w c n (Some x) last kept kept' fits e none is said left pending_call stock =
    let b = is_last (model_state v) x in
    let r = t'.frame.endings in
    let list : r.list ≡ with_end n (cond b (ending_as x.kind x) None) c.endings.list =
    left.list ∙ ap (λ (q : Bool). with_end n (cond q (ending_as x.kind x) None) c.endings.list) said in
    subst (λ (k : Frame). FitsThread d (record { frame = k; stock = t'.stock; pending_call = t'.pending_call }) w) (sym left.same)
    (subst (λ (h : PendingCall). FitsThread d (record { frame = record c { endings = r }; stock = t'.stock; pending_call = h }) w) (sym (pending_call ∙ e))
    (subst (λ (u : GhostState). FitsThread d (record { frame = record c { endings = r }; stock = t'.stock; pending_call = Rest }) u) (sym is)
    (fits_leaving d t v c r t'.stock n x x.kind b kept fits e none (subst (λ (u : GhostState). TableInvariant u) is kept')
    (subst (λ (u : GhostState). HasGoneOn d t.frame c u) is left.gone) left.empty list left.roomy
    (subst (λ (q : Bool). IsStocked x.kind x.block.0 q t.stock t'.stock) said stock))))
