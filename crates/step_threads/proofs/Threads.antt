-- A thread's own atomic steps keep it fitting the table.
use Rattle.std.proofs.Common.{◌≡◌, ℕ, ◌+◌, ◌<◌, ◌≤◌, Bool, true, false, cond, not, ◌≢◌, ◌⊎◌, List}
use Rattle.std.proofs.Common.{[], ◌∷◌, length, get_or, set, ◌==◌, Some, None, sym, refl, ap, ◌∙◌}
use Rattle.std.proofs.Common.{subst, inl, ⊎_elim, arith, length-set, get_or-set_other}
use Rattle.std.proofs.Common.{get_or-set_same, eq-eqb}
use Rattle.step_threads.proofs.Prelude
use Prelude.{Act, All, AtomicStep, Block, cases_eq, Clear, cond-true, FitsThread, Form, Frame}
use Prelude.{FrameReady, ghost_after_step, GhostState, Has, HasCell, HasGoneOn, in_list, IsNext}
use Prelude.{IsPermutation, IsReady, known_words, least, Leave, Lock, Make, Making, MayComeNext}
use Prelude.{model_state, no_task, Nothing, other, Pending, pending, pending_after, PendingCall}
use Prelude.{PendingCallFits, Rest, rest, Stocks, stored, StoreView, sum_by_popped, TableInvariant}
use Prelude.{taken_after, Task, task_at, TasksMayCome, Thread, used_up, View, wanted}
use Rattle.control_word.specs.Steps.{known_of}
use Rattle.step_table.specs.declared.memory.ghost_history.AtomicStep.TheVariants as atomic_step
use Rattle.step_threads.specs.Actors.{IsPreparedSoFar}
use Rattle.step_threads.specs.Frames.{form_of}
use Rattle.step_threads.specs.Threads.{form_at}
use Rattle.step_threads.proofs.Frames.{owed_by, ready_any, ready_head}
use Rattle.step_threads.proofs.holding.Ends.{ends_gone, ends_none}
use Rattle.step_threads.proofs.holding.Least.{least_stored, none_stored}
use Rattle.step_threads.proofs.holding.Storing.{stocks_claim, stocks_take}
use Rattle.step_table.proofs.tables.Places.{making_stored, named}

-- the desk's own half-done call after its atomic step
pub own_pending : (v : GhostState) (d : ℕ) (x : AtomicStep) → TableInvariant v → d < v.extent.actors → pending (ghost_after_step v d x) d ≡ pending_after v d x
own_pending v d x kept lt =
    ap (λ (w : View Nothing). w.pending) (get_or-set_same v.views d _ used_up (let s = kept.seats.size in omega (arith, s)))

-- a make comes with nothing in hand
pub make_empty : (c : Frame) (form : Form) → c.at < length c.tasks.items → FrameReady c → (task_at c).act ≡ Make form → c.taken ≡ false
make_empty c form lt ready act =
    let b : MayComeNext (other c.registers.slots.items) c.taken (Make form) = subst (MayComeNext (other c.registers.slots.items) c.taken) act
    (ready_head c lt ready).0 in b.0

-- a lock that gives no owner takes an empty value, or nothing where it is refused
pub lost_ready : (c : Frame) (k : ℕ) (must : Bool) → c.at < length c.tasks.items → FrameReady c → (task_at c).act ≡ Lock k must
    → IsReady c.registers.slots.items (not must) c.endings.list (rest c)
lost_ready c k must lt ready act =
    let h = ready_head c lt ready in
    let n = other c.registers.slots.items in
    let b : MayComeNext n c.taken (Lock k must) = subst (MayComeNext n c.taken) act h.0 in
    let r : TasksMayCome n true (rest c) = subst (λ (a : Act). TasksMayCome n (taken_after a c.taken) (rest c)) act h.2 in
    record {
      some = ready.some;
      free = λ e. ready.free b.1;
      owes = inl (owed_by c (Lock k must) lt ready act (λ e. e));
      ready = go must r;
    }
  where
    go : (m : Bool) → TasksMayCome (other c.registers.slots.items) true (rest c) → TasksMayCome (other c.registers.slots.items) (not m) (rest c)
    go true r = ready_any (other c.registers.slots.items) (rest c) r
    go false r = r

-- a name is left with nothing in hand
pub leave_empty : (c : Frame) (k : ℕ) → c.at < length c.tasks.items → FrameReady c → ((task_at c).act ≡ Leave k) ⊎ ((task_at c).act ≡ Clear k)
    → c.taken ≡ false
leave_empty c k lt ready act =
    let n = other c.registers.slots.items in
    let h = (ready_head c lt ready).0 in
    ⊎_elim (λ (e : (task_at c).act ≡ Leave k). let b : MayComeNext n c.taken (Leave k) = subst (MayComeNext n c.taken) e h in b.1)
    (λ (e : (task_at c).act ≡ Clear k). let b : MayComeNext n c.taken (Clear k) = subst (MayComeNext n c.taken) e h in b.1) act

-- a make that is refused takes nothing
pub refused_ready : (c : Frame) (form : Form) → c.at < length c.tasks.items → FrameReady c → (task_at c).act ≡ Make form
    → IsReady c.registers.slots.items c.taken c.endings.list (rest c)
refused_ready c form lt ready act =
    let h = ready_head c lt ready in
    let n = other c.registers.slots.items in
    let b : MayComeNext n c.taken (Make form) = subst (MayComeNext n c.taken) act h.0 in
    let r : TasksMayCome n true (rest c) = subst (λ (a : Act). TasksMayCome n (taken_after a c.taken) (rest c)) act h.2 in
    record {
      some = ready.some;
      free = ready.free;
      owes = inl (owed_by c (Make form) lt ready act (λ e. e));
      ready = subst (λ (t : Bool). TasksMayCome n t (rest c)) (sym b.0) (ready_any n (rest c) r);
    }

pub form_here : (c : Frame) (form : Form) → (task_at c).act ≡ Make form → form_at c ≡ form
form_here c form e = ap form_of e

next_here : (c : Frame) (form : Form) → (task_at c).act ≡ Make form → (task_at c).act ≡ Make (form_at c)
next_here c form e = e ∙ ap Make (sym (form_here c form e))

-- its tasks are the same
pub cells_on : (d : ℕ) (c c' : Frame) (v : GhostState) → HasGoneOn d c c' v → All (λ (x : Task). HasCell v.extent.shape x.act) c.tasks.items
    → All (λ (x : Task). HasCell v.extent.shape x.act) c'.tasks.items
cells_on d c c' v on cells =
    let t = on.tasks in
    let e : c'.tasks.items ≡ c.tasks.items = cc in
    subst (λ (l : List Task). All (λ (x : Task). HasCell v.extent.shape x.act) l) (sym e) cells

-- the shape has the cell of the next one
pub cell_here : (c : Frame) (v : GhostState) → c.at < length c.tasks.items → All (λ (x : Task). HasCell v.extent.shape x.act) c.tasks.items
    → HasCell v.extent.shape (task_at c).act
cell_here c v lt cells = cells c.at no_task lt

pub resting : (d : ℕ) (t : Thread) (v : GhostState) → FitsThread d t v → t.pending_call ≡ Rest → Stocks d t.stock.blocks t.stock.room Rest v
resting d t v fits e = subst (λ (h : PendingCall). Stocks d t.stock.blocks t.stock.room h v) e fits.stocks

pub prepared : (d : ℕ) (t : Thread) (v : GhostState) (b : Block) (i : ℕ) (f : Bool) → FitsThread d t v → t.pending_call ≡ Making b i f
    → IsPreparedSoFar d b i (form_at t.frame) v
prepared d t v b i f fits e = subst (λ (h : PendingCall). PendingCallFits d h t.frame.registers.slots.items (task_at t.frame).act v) e fits.pending_call

-- the block that the stock gave is the least of the store, which has none where the stock is empty
pub least_here : (d : ℕ) (t : Thread) (v : GhostState) (b : Block) (s : StoreView) → FitsThread d t v → t.pending_call ≡ Rest
    → IsPermutation t.stock.blocks (b.0 ∷ s.blocks)
    → All (λ c. b.0 ≤ c) t.stock.blocks → least d (model_state v).stores ≡ Some b.0
least_here d t v b s fits e p all =
    let x = resting d t v fits e in
    least_stored d b.0 (model_state v).stores t.stock.blocks (λ c. let q = x.stocked c in omega (arith, q))
    (let a = sum_by_popped (λ (c : ℕ). cond (c == b.0) 1 0) b.0 t.stock.blocks s.blocks p in
    let o = cond-true {A = ℕ} (b.0 == b.0) 1 0 (eq-eqb b.0 b.0 refl) in omega (arith, a, o)) all

pub least_nowhere : (d : ℕ) (t : Thread) (v : GhostState) → FitsThread d t v → t.pending_call ≡ Rest → t.stock.blocks ≡ []
    → least d (model_state v).stores ≡ None
least_nowhere d t v fits e none =
    let x = resting d t v fits e in
    none_stored d (model_state v).stores (λ c. let q = x.stocked c in let z : in_list c t.stock.blocks ≡ 0 = ap (in_list c) none in omega (arith, q, z))

pub fits_prepare : (d : ℕ) (t : Thread) (v : GhostState) (b : Block) (s : StoreView) (form : Form) → TableInvariant v → FitsThread d t v → t.pending_call ≡ Rest
    → t.frame.endings.list ≡ [] → t.frame.at < length t.frame.tasks.items → (task_at t.frame).act ≡ Make form
    → IsPermutation t.stock.blocks (b.0 ∷ s.blocks) → All (λ c. b.0 ≤ c) t.stock.blocks → s.room ≡ t.stock.room
    → FitsThread d (record { frame = t.frame; stock = s; pending_call = Making b 0 false }) (ghost_after_step v d (atomic_step.Prepare b))
fits_prepare d t v b s form kept fits e none lt act p all room =
    let o = own_pending v d (atomic_step.Prepare b) kept fits.seat in
    let x = stocks_take d t.stock.blocks s.blocks t.stock.room 0 false v b (resting d t v fits e) p in
    record {
      seat = fits.seat;
      holds = record { owned = fits.holds.owned; size = fits.holds.size; formed = fits.holds.formed };
      within = fits.within;
      ready = fits.ready;
      still = fits.still;
      pending_call =
          record {
            making = record { words = known_of v.words b.0; size = refl; making = o };
            within = omega arith;
            least = least_here d t v b s fits e p all;
            done = λ j l. absurd (omega arith);
          };
      next = (lt, next_here t.frame form act, none);
      stocks = record { stocked = x.stocked; roomy = (let q = x.roomy in omega (arith, q, room)) };
      endings = ends_none d t.frame (ghost_after_step v d (atomic_step.Prepare b)) none fits.endings.roomy;
      cells = fits.cells;
    }

pub fits_write : (d : ℕ) (t : Thread) (v : GhostState) (b : Block) (i : ℕ) → TableInvariant v → FitsThread d t v → t.pending_call ≡ Making b i true → i < 5
    → FitsThread d (record { frame = t.frame; stock = t.stock; pending_call = Making b (i + 1) false })
    (ghost_after_step v d (atomic_step.Write b i (get_or (wanted
    (form_at t.frame)) i 0)))
fits_write d t v b i kept fits e lt =
    let n = get_or (wanted (form_at t.frame)) i 0 in
    let p = prepared d t v b i true fits e in
    let o = own_pending v d (atomic_step.Write b i n) kept fits.seat in
    let x : Stocks d t.stock.blocks t.stock.room (Making b i true) v = subst (λ (h : PendingCall). Stocks d t.stock.blocks t.stock.room h v) e fits.stocks in
    let y : IsNext (Making b i true) t.frame = subst (λ (h : PendingCall). IsNext h t.frame) e fits.next in
    let k = known_words (pending v d) in
    let five : length k ≡ 5 = ap (λ (q : Pending Nothing). length (known_words q)) p.making.making ∙ p.making.size in
    record {
      seat = fits.seat;
      holds = record { owned = fits.holds.owned; size = fits.holds.size; formed = fits.holds.formed };
      within = fits.within;
      ready = fits.ready;
      still = fits.still;
      pending_call =
          record {
            making = record { words = set k i n; size = length-set k i n ∙ five; making = o };
            within = omega arith;
            least = p.least;
            done = λ j l.
                ap (λ (q : Pending Nothing). get_or (known_words q) j 0) o
                ∙ ⊎_elim (λ (u : j ≡ i). subst
                (λ (m : ℕ). get_or (set k i n) m 0 ≡ get_or (wanted (form_at t.frame)) m 0) (sym u) (get_or-set_same k i n 0 (omega
                (arith, five))))
                (λ (u : j ≢ i). get_or-set_other k i j n 0 u ∙ p.done j (omega (arith, l, u))) (cases_eq j i);
          };
      next = y;
      stocks = record { stocked = x.stocked; roomy = x.roomy };
      endings = ends_none d t.frame (ghost_after_step v d (atomic_step.Write b i n)) y.2 fits.endings.roomy;
      cells = fits.cells;
    }

pub fits_claim : (d : ℕ) (t : Thread) (v : GhostState) (b : Block) (f : Bool) (form : Form) (c : Frame) → TableInvariant v → FitsThread d t v
    → t.pending_call ≡ Making b 5 f
    → HasGoneOn d t.frame c (ghost_after_step v d (atomic_step.Claim b form.enabled form.null form.fields))
    → FitsThread d (record { frame = c; stock = t.stock; pending_call = Rest }) (ghost_after_step v d (atomic_step.Claim b form.enabled form.null form.fields))
fits_claim d t v b f form c kept fits e on =
    let p = prepared d t v b 5 f fits e in
    let x : Stocks d t.stock.blocks t.stock.room (Making b 5 f) v = subst (λ (h : PendingCall). Stocks d t.stock.blocks t.stock.room h v) e fits.stocks in
    let y : IsNext (Making b 5 f) t.frame = subst (λ (h : PendingCall). IsNext h t.frame) e fits.next in
    let has = subst (λ (n : ℕ). Has (stored n b.0) (model_state v).stores) (named v d kept fits.seat)
    (making_stored v d b p.making.words kept fits.seat p.making.making) in
    record {
      seat = fits.seat;
      holds = on.holds;
      within = on.within;
      ready = on.ready;
      still = on.still;
      pending_call = own_pending v d (atomic_step.Claim b form.enabled form.null form.fields) kept fits.seat;
      next = tt;
      stocks = stocks_claim d t.stock.blocks t.stock.room 5 f v b form x has;
      endings = ends_gone d t.frame c v (ghost_after_step v d (atomic_step.Claim b form.enabled form.null form.fields)) fits.endings y.2 on.endings refl;
      cells = cells_on d t.frame c (ghost_after_step v d (atomic_step.Claim b form.enabled form.null form.fields)) on fits.cells;
    }
