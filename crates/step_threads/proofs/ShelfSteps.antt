-- Acts on the shelf: what they do to the store, and to the thread.
use Rattle.std.proofs.Common.{◌≡◌, ℕ, ◌<◌, ◌≤◌, cond, List, [], ◌∷◌, length, is_some, ◌==◌, Some}
use Rattle.std.proofs.Common.{None, Option, sym, refl, ap, ◌∙◌, subst, inl, arith}
use Rattle.step_threads.proofs.Prelude
use Prelude.{Act, atomic_step_is_event, Block, Event, first, FitsThread, Frame, frame_settled}
use Prelude.{frame_view, FrameReady, ghost_after, ghost_after_step, GhostState, HasGoneOn}
use Prelude.{HasStepped, IsPermutation, IsReady, model_state, num_cons, num_without, OnShelf}
use Prelude.{other, Quiet, Rest, rest, same_stored, Shelve, silent, Stepped, Stocks, stored}
use Prelude.{stored_self, stored_true, StoreView, sum_by-cons, sum_by_popped, sum_by_pushed}
use Prelude.{TableInvariant, taken_after, task_at, TasksMayCome, Thread, Unshelve}
use Rattle.step_table.specs.declared.memory.ghost_history.AtomicStep.TheVariants as atomic_step
use Rattle.step_table.specs.declared.memory.shelf.ShelfStep.{ShelfStep}
use Rattle.step_table.specs.declared.memory.shelf.ShelfStep.TheVariants as shelf
use Rattle.step_threads.specs.Shelving.{shelf_block, shelf_step}
use Rattle.step_threads.specs.declared.programs.act.ShelfAct.{ShelfAct}
use Rattle.step_threads.proofs.Frames.{owed_by, ready_head}
use Rattle.step_threads.proofs.Steps.{at_act, stepped_as, waits_act}
use Rattle.step_threads.proofs.Threads.{cells_on, own_pending, resting}
use Rattle.step_threads.proofs.holding.Ends.{ends_gone}
use Rattle.step_threads.proofs.holding.Few.{store_room}
use Rattle.step_threads.specs.Stocks.{HasRoomFor}
use Rattle.step_threads.proofs.holding.Storing.{one_stored, taken_stored}

-- nothing is taken and nothing dropped
pub shelf_ready : (c : Frame) (x : ShelfAct) → c.at < length c.tasks.items → FrameReady c → (task_at c).act ≡ OnShelf x
    → IsReady c.registers.slots.items c.taken c.endings.list (rest c)
shelf_ready c x lt ready act =
    let h = ready_head c lt ready in
    let n = other c.registers.slots.items in
    record {
      some = ready.some;
      free = ready.free;
      owes = inl (owed_by c (OnShelf x) lt ready act (λ e. e));
      ready = subst (λ (a : Act). TasksMayCome n (taken_after a c.taken) (rest c)) act h.2;
    }

-- the least block of the store goes to the shelf
pub stocks_shelve : (d : ℕ) (old new : List ℕ) (room : ℕ) (v : GhostState) (b : Block) → Stocks d old room Rest v → IsPermutation old (b.0 ∷ new)
    → Stocks d new room Rest (ghost_after_step v d (atomic_step.OnShelf b shelf.Shelve))
stocks_shelve d old new room v b stocks p =
    let has = taken_stored d old new room v b stocks p in
    record {
      stocked = λ c.
          let a = num_without same_stored stored_true stored_self (same_stored (stored d c)) (stored d b.0) (model_state v).stores has in
          let o = one_stored d b.0 c in
          let q = sum_by_popped (λ (x : ℕ). cond (x == c) 1 0) b.0 old new p in
          let s = stocks.stocked c in omega (arith, a, o, q, s);
      roomy = stocks.roomy;
    }

-- a block comes from the shelf
pub stocks_unshelve : (d : ℕ) (old new : StoreView) (v : GhostState) (b : Block) → Stocks d old.blocks old.room Rest v
    → IsPermutation (b.0 ∷ old.blocks) new.blocks → old.room ≤ new.room
    → Stocks d new.blocks new.room Rest (ghost_after_step v d (atomic_step.OnShelf b shelf.Unshelve))
stocks_unshelve d old new v b stocks p room =
    record {
      stocked = λ c.
          let a = num_cons (same_stored (stored d c)) (stored d b.0) (model_state v).stores in
          let o = one_stored d b.0 c in
          let q = sum_by_pushed (λ (x : ℕ). cond (x == c) 1 0) b.0 old.blocks new.blocks p in
          let s = stocks.stocked c in omega (arith, a, o, q, s);
      roomy = (let r = stocks.roomy in omega (arith, r, room));
    }

-- the bit of a block that wasn't there is cleared
pub stocks_missed : (d : ℕ) (l : List ℕ) (room : ℕ) (v : GhostState) (b : Block) → Stocks d l room Rest v
    → Stocks d l room Rest (ghost_after_step v d (atomic_step.OnShelf b shelf.Miss))
stocks_missed d l room v b stocks = record { stocked = stocks.stocked; roomy = stocks.roomy }

-- it has room there
pub room_unshelve : (d : ℕ) (t : Thread) (v w : GhostState) (b : Block) → FitsThread d t v → t.pending_call ≡ Rest
    → w ≡ ghost_after_step v d (atomic_step.OnShelf b shelf.Unshelve) → TableInvariant w
    → HasRoomFor t.stock b.0
room_unshelve d t v w b fits e is kept =
    let s = resting d t v fits e in
    store_room d (ghost_after_step v d (atomic_step.OnShelf b shelf.Unshelve)) b.0 t.stock
    (subst (λ (u : GhostState). TableInvariant u) is kept)
    (λ c. let g = num_cons (same_stored (stored d c)) (stored d b.0) (model_state v).stores in
    let k = one_stored d b.0 c in
    let a = sum_by-cons (λ (y : ℕ). cond (y == c) 1 0) b.0 t.stock.blocks in
    let o = s.stocked c in omega (arith, g, k, a, o))
    s.roomy

-- a bit of the shelf was set or cleared, and the thread went on
pub fits_moved : (d : ℕ) (t : Thread) (v : GhostState) (b : Block) (x : ShelfStep) (c : Frame) (s : StoreView) → TableInvariant v → FitsThread d t v
    → t.frame.endings.list ≡ []
    → HasGoneOn d t.frame c (ghost_after_step v d (atomic_step.OnShelf b x)) → Stocks d s.blocks s.room Rest (ghost_after_step v d (atomic_step.OnShelf b x))
    → FitsThread d (record { frame = c; stock = s; pending_call = Rest }) (ghost_after_step v d (atomic_step.OnShelf b x))
fits_moved d t v b x c s kept fits none on stocks =
    let y = atomic_step.OnShelf b x in
    let w = ghost_after_step v d y in
    record {
      seat = fits.seat;
      holds = on.holds;
      within = on.within;
      ready = on.ready;
      still = on.still;
      pending_call = own_pending v d y kept fits.seat;
      next = tt;
      stocks = stocks;
      endings = ends_gone d t.frame c v w fits.endings none on.endings refl;
      cells = cells_on d t.frame c w on fits.cells;
    }

-- which step it was
pub stepped_shelf : (d : ℕ) (t t' : Thread) (v w : GhostState) (r : Stepped) (x : ShelfAct) (o : Option ℕ) (k : ℕ)
    → k ≡ (task_at t.frame).statement → t.pending_call ≡ Rest → t.frame.endings.list ≡ [] → t.frame.at < length t.frame.tasks.items
    → (task_at t.frame).act ≡ OnShelf x → shelf_block (model_state v) d x ≡ o
    → r ≡ cond (is_some o) (Event (silent k)) (Quiet (silent k)) → w ≡ ghost_after v d (shelf_step x o)
    → frame_view t'.frame ≡ frame_settled t.frame.registers.slots.items t.frame.taken t.frame.endings.list (rest t.frame)
    → t'.pending_call ≡ Rest → HasStepped d t v r t' w
stepped_shelf d t t' v w r x o k number rests none lt act found says ghost_state walked pending_call =
    let n = (task_at t.frame).statement in
    stepped_as d t v (first v d (frame_view t.frame) n (rest t.frame) (OnShelf x)) r t' w
    (waits_act t v (OnShelf x) rests none lt act) (at_act d t v (OnShelf x) rests none lt act)
    (says ∙ ap (λ (m : ℕ). cond (is_some o) (Event (silent m)) (Quiet (silent m))) number ∙ events x o
    ∙ ap (λ (q : Option ℕ). stepped_by q) (sym found))
    (ghost_state ∙ ap (λ (q : Option ℕ). ghost_after v d (shelf_step x q)) (sym found)) walked pending_call
  where
    stepped_by : Option ℕ → Stepped
    stepped_by q =
        let m = (task_at t.frame).statement in
        cond (atomic_step_is_event v (shelf_step x q)) (Event (silent m)) (Quiet (silent m))

    events : (y : ShelfAct) (q : Option ℕ) → let m = (task_at t.frame).statement in
        cond (is_some q) (Event (silent m)) (Quiet (silent m)) ≡ cond (atomic_step_is_event v (shelf_step y q)) (Event (silent m)) (Quiet (silent m))
    events Shelve None = refl
    events Shelve (Some b) = refl
    events (Unshelve c) None = refl
    events (Unshelve c) (Some b) = refl
