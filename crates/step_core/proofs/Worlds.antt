-- A step of one thread keeps all of them fitting the table.
use Rattle.std.proofs.Common.{◌≡◌, ℕ, ◌<◌, ◌≤◌, false, ◌≢◌, List, [], ◌∷◌, map, length, get_or}
use Rattle.std.proofs.Common.{set, is_some, ◌==◌, slice_get, Some, None, All, Option, sym, refl}
use Rattle.std.proofs.Common.{ap, ◌∙◌, subst, ⊎_elim, arith}
use Rattle.step_core.proofs.Prelude
use Prelude.{abstraction, Act, All-head, AllFit, answered, AtomicStep, Block, Brought, cases_eq}
use Prelude.{cases_lt, Checking, Clearing, cond_both, Empty, EndsAll, Failing, false≢true}
use Prelude.{FitsThread, Frame, frame_by, frame_of, frame_view, FrameView, Full, FundsAreHeld}
use Prelude.{get_or-map, get_or_past, ghost_after, ghost_after_step, ghost_by, GhostState, Giving}
use Prelude.{HasBegun, HasCell, HasStepped, HoldsBag, Idle, is_loading, IsAlone, IsInShape}
use Prelude.{IsMatched, IsNext, IsProperPendingCall, IsSeen, IsStill, IsSwap, IsTidy, IsTried}
use Prelude.{IsUnderWay, Kind, kind_in_state, Lacking, length-map, Locking, Making, Matched}
use Prelude.{model_state, new_of, NextActLocks, Nothing, nowhere, owes, owing_for, owing_funds}
use Prelude.{Pending, pending, pending_call_by, pending_call_of, PendingCall, PendingCallFits}
use Prelude.{Place, Refill, Refilling, Rest, Returning, same_Some, Saw, Shape, slice_get_cases}
use Prelude.{Slot, Slots, spot, Step, step_at, step_of, Stepped, Steps, TableInvariant, Task}
use Prelude.{task_at, Thread, thread_frame, thread_pending, Turning, used_up, View, WorldState}
use Rattle.std.proofs.Math.ListN.{drop_of_length-le}
use Rattle.std.proofs.lemmas.List.{map-set}
use Rattle.std.proofs.lemmas.List.Elements.{All-drop}
use Rattle.std.proofs.lemmas.Option.{slice_get-get_or}
use Rattle.control_word.specs.Words.{slot as word_slot}
use Rattle.step_threads.specs.Frames.{FrameStill, todo}
use Rattle.step_core.specs.Turning.{OthersOwe}
use Rattle.step_threads.proofs.Frames.{todo_at}
use Rattle.step_threads.proofs.holding.PendingCalls.{pending_call_others}
use Rattle.step_threads.proofs.holding.Others.{ends_others, stocks_others}
use Rattle.step_table.proofs.holding.Keeping.{holds_others}
use Rattle.step_core.proofs.Lists.{get_other, get_same}

fits_others : (d : ℕ) (u : Thread) (v : GhostState) (n : ℕ) (x : AtomicStep) → n ≢ d → TableInvariant v → TableInvariant (ghost_after_step v n x)
    → FitsThread d u v
    → FitsThread d u (ghost_after_step v n x)
fits_others d u v n x ne kept kept' fits =
    record {
      seat = fits.seat;
      holds = holds_others d u.frame.registers.slots.items v n x ne kept kept' fits.holds;
      within = fits.within;
      ready = fits.ready;
      still = fits.still;
      pending_call = pending_call_others d n v x ne kept kept' u.pending_call u.frame.registers.slots.items (task_at u.frame).act fits.pending_call;
      next = fits.next;
      stocks = stocks_others d u.stock.blocks u.stock.room u.pending_call v n x ne fits.stocks;
      endings = record {
        all = ends_others d u.frame.endings.list v n x ne kept kept' fits.endings.all;
        roomy = fits.endings.roomy;
        empty = fits.endings.empty;
      };
      cells = fits.cells;
    }

fits_atomic_step : (d : ℕ) (u : Thread) (v v' : GhostState) (n : ℕ) (x : AtomicStep) → n ≢ d → TableInvariant v → TableInvariant v' → v'
    ≡ ghost_after_step v n x → FitsThread d u v
    → FitsThread d u v'
fits_atomic_step d u v v' n x ne kept kept' is fits =
    subst (λ (w : GhostState). FitsThread d u w) (sym is) (fits_others d u v n x ne kept (subst (λ (w : GhostState). TableInvariant w) is kept') fits)

fits_by : (d : ℕ) (u : Thread) (v v' : GhostState) (n : ℕ) (x : Option Step) → n ≢ d → TableInvariant v → TableInvariant v' → v' ≡ ghost_by v n x
    → FitsThread d u v → FitsThread d u v'
fits_by d u v v' n None ne kept kept' is fits = subst (λ (w : GhostState). FitsThread d u w) (sym is) fits
fits_by d u v v' n (Some x) ne kept kept' is fits = done x.atomic_step is
  where
    done : (y : Option AtomicStep) → v' ≡ ghost_after v n y → FitsThread d u v'
    done None e = subst (λ (w : GhostState). FitsThread d u w) (sym e) fits
    done (Some z) e = fits_atomic_step d u v v' n z ne kept kept' e fits

pub all_fit : (v v' : GhostState) (threads : List Thread) (n : ℕ) (t t' : Thread) (r : Stepped) → TableInvariant v → TableInvariant v' → AllFit v threads
    → n < length threads
    → HasStepped n t v r t' v' → FitsThread n t' v' → AllFit v' (set threads n t')
all_fit v v' threads n t t' r kept kept' all lt moved fits =
    record {
      each = λ d u at.
          ⊎_elim
          (λ (e : d ≡ n). let k : t' ≡ u = same_Some _ _ (sym (get_same threads n t' lt)
          ∙ subst (λ (j : ℕ). slice_get (set threads n t') j ≡ Some u) e at) in
          subst (λ (j : ℕ). FitsThread j u v') (sym e) (subst (λ (w : Thread). FitsThread n w v') k fits))
          (λ (ne : d ≢ n). fits_by d u v v' n (step_at v n t.pending_call (frame_view t.frame)) (λ e. ne (sym e)) kept kept' moved.ghost_state
          (all.each d u (sym (get_other threads n d t' ne) ∙ at))) (cases_eq d n);
    }

-- the thread that is read is the one at its number
pub thread_at : (threads : List Thread) (n : ℕ) (t : Thread) → n < length threads → t ≡ get_or threads n t → slice_get threads n ≡ Some t
thread_at threads n t lt read = slice_get-get_or threads n t lt ∙ ap (λ (x : Thread). Some x) (sym read)

-- it has a hand
pub some_slots : (v : GhostState) (threads : List Thread) (n : ℕ) (t : Thread) → AllFit v threads → n < length threads → t ≡ get_or threads n t
    → 0 < length t.frame.registers.slots.items
some_slots v threads n t all lt read = let s = (all.each n t (thread_at threads n t lt read)).ready.some in omega (arith, s)

-- what clauses see of a table and threads
abbrev pub world_state : GhostState → List Thread → WorldState
world_state v threads = record { ghost_state = v; frame_views = map thread_frame threads; pending_calls = map thread_pending threads }

seen : {v v' : GhostState} {a a' : List FrameView} {b b' : List PendingCall} → v ≡ v' → a ≡ a' → b ≡ b'
    → ◌≡◌ {A = WorldState} (record { ghost_state = v; frame_views = a; pending_calls = b }) (record { ghost_state = v'; frame_views = a'; pending_calls = b' })
seen e f g = cc

pub steps : (v v' : GhostState) (threads : List Thread) (n : ℕ) (t t' : Thread) (r : Stepped) → n < length threads → t ≡ get_or threads n t
    → HasStepped n t v r t' v' → Steps n (world_state v threads) r (world_state v' (set threads n t'))
steps v v' threads n t t' r lt read moved =
    let u = world_state v threads in
    let s = step_at v n t.pending_call (frame_view t.frame) in
    let h : pending_call_of u n ≡ t.pending_call = get_or-map thread_pending threads n t Rest lt ∙ ap thread_pending (sym read) in
    let w : frame_of (abstraction u) n ≡ frame_view t.frame = get_or-map thread_frame threads n t nowhere lt ∙ ap thread_frame (sym read) in
    let e : step_of n u ≡ s = ap (λ (k : PendingCall). step_at v n k (frame_of (abstraction u) n)) h
    ∙ ap (λ (k : FrameView). step_at v n t.pending_call k) w in (
      moved.answer ∙ ap (λ (k : PendingCall). answered v n k (frame_view t.frame)) (sym h) ∙ ap (λ (k : FrameView). answered v n (pending_call_of u n) k)
          (sym w),
      seen (moved.ghost_state ∙ ap (ghost_by v n) (sym e))
          (map-set thread_frame threads n t' ∙ ap (λ (k : FrameView). set (map thread_frame threads) n k) (moved.place
          ∙ ap (λ (k : FrameView). frame_by k s) (sym w)
          ∙ ap (frame_by (frame_of (abstraction u) n)) (sym e)))
          (map-set thread_pending threads n t' ∙ ap (λ (k : PendingCall). set (map thread_pending threads) n k) (moved.pending_call
          ∙ ap (λ (k : PendingCall). pending_call_by k s) (sym h)
          ∙ ap (pending_call_by (pending_call_of u n)) (sym e))),
    )

-- what a thread has begun
begun_of : (d : ℕ) (h : PendingCall) (c : Frame) (v : GhostState) → PendingCallFits d h c.registers.slots.items (task_at c).act v → IsNext h c → IsUnderWay d v
    h (todo c)
begun_of d Rest c v fits next = tt
begun_of d (Making b i differs) c v fits next =
    subst (λ (ts : List Task). IsUnderWay d v (Making b i differs) ts) (sym (todo_at c next.0)) (fits.within, fits.least, next.1)
begun_of d (Locking word) c v fits next = tt
begun_of d (Giving i kind x) c v fits next =
    subst (λ (ts : List Task). IsUnderWay d v (Giving i kind x) ts) (sym (todo_at c next.0)) (next.1, fits.enabled)
begun_of d Brought c v fits next = tt
begun_of d (Saw x) c v fits next = tt
begun_of d (Matched x) c v fits next = tt
begun_of d (Refill stage cell x k) c v fits next = tt
begun_of d (Returning kind b funds k) c v fits next = tt
begun_of d Clearing c v fits next = tt

tried_of : (h : PendingCall) (c : Frame) → IsNext h c → IsTried h (frame_view c)
tried_of Rest c next = tt
tried_of (Making b i differs) c next = tt
tried_of (Locking word) c next = subst (λ (ts : List Task). NextActLocks c.registers.slots.items ts) (sym (todo_at c next.0)) next.1
tried_of (Giving i kind x) c next = next.2
tried_of Brought c next = subst (λ (ts : List Task). IsSwap c.registers.slots.items ts) (sym (todo_at c next.0)) next.1
tried_of (Saw x) c next = subst (λ (ts : List Task). IsSeen c.registers.slots.items x ts) (sym (todo_at c next.0)) next.1
tried_of (Matched x) c next = subst (λ (ts : List Task). IsMatched c.registers.slots.items x ts) (sym (todo_at c next.0)) next.1
tried_of (Refill stage cell x k) c next = tt
tried_of (Returning kind b funds k) c next = tt
tried_of Clearing c next = next

alone_of : (h : PendingCall) (c : Frame) → IsNext h c → IsAlone h c.endings.list
alone_of Rest c next = tt
alone_of (Making b i differs) c next = next.2
alone_of (Locking word) c next = next.2
alone_of (Giving i kind x) c next = next.3
alone_of Brought c next = next.2
alone_of (Saw x) c next = next.2
alone_of (Matched x) c next = next.2
alone_of (Refill stage cell x k) c next = tt
alone_of (Returning kind b funds k) c next = tt
alone_of Clearing c next = tt

-- the shape has the cells of the tasks that are left
in_shape : (z : Shape) (ts : List Task) → All (λ (t : Task). HasCell z t.act) ts → IsInShape z ts
in_shape z [] all = tt
in_shape z (t ∷ ts) all = All-head (λ (t : Task). HasCell z t.act) t ts all

-- the next task is an act
still_of : (c : Frame) → FrameStill c → IsStill (frame_view c) (todo c)
still_of c still =
    ⊎_elim (λ (lt : c.at < length c.tasks.items). subst (λ (ts : List Task). IsStill (frame_view c) ts) (sym (todo_at c lt)) (still lt))
    (λ (le : length c.tasks.items ≤ c.at). subst (λ (ts : List Task). IsStill (frame_view c) ts) (sym (drop_of_length-le c.tasks.items le)) tt)
    (cases_lt c.at (length c.tasks.items))

proper_of : (d : ℕ) (h : PendingCall) (c : Frame) (v : GhostState) → PendingCallFits d h c.registers.slots.items (task_at c).act v → IsProperPendingCall d v h
proper_of d Rest c v fits = fits
proper_of d (Making b i differs) c v fits = tt
proper_of d (Locking word) c v fits = tt
proper_of d (Giving i kind x) c v fits = tt
proper_of d Brought c v fits = tt
proper_of d (Saw x) c v fits = fits.1
proper_of d (Matched x) c v fits = fits.1
proper_of d (Refill stage cell x k) c v fits = ap is_some fits.owned
proper_of d (Returning kind b funds k) c v fits = tt
proper_of d Clearing c v fits = tt

out_of : (d : ℕ) (h : PendingCall) (c : Frame) (v : GhostState) → PendingCallFits d h c.registers.slots.items (task_at c).act v → FundsAreHeld d v h
out_of d Rest c v fits = tt
out_of d (Making b i differs) c v fits = tt
out_of d (Locking word) c v fits = tt
out_of d (Giving i kind x) c v fits = tt
out_of d Brought c v fits = tt
out_of d (Saw x) c v fits = tt
out_of d (Matched x) c v fits = tt
out_of d (Refill stage cell x k) c v fits = fits
out_of d (Returning kind b funds k) c v fits = fits
out_of d Clearing c v fits = tt

none_idle : (v : GhostState) (d i : ℕ) → pending v d ≡ Idle → owes (pending v d) i ≡ 0
none_idle v d i idle = ap (λ (p : Pending Nothing). owes p i) idle

-- funds alone are no load
none_paying : (v : GhostState) (d i : ℕ) (k : Kind) (b : Block) (p : Option Place) (n : ℕ) → pending v d ≡ owing_funds (model_state v) k (Some b) p n 0
    → owes (pending v d) i ≡ 0
none_paying v d i k b p n is =
    ap (λ (q : Pending Nothing). owes q i) is ∙ cond_both (i == spot b.0 (word_slot k)) 0 0 (λ (n : ℕ). n ≡ 0) (λ t. refl) (λ t. refl)

none_brought : (v : GhostState) (d i : ℕ) (a : Slot) → pending v d ≡ owing_for (model_state v) a 256 → owes (pending v d) i ≡ 0
none_brought v d i (Empty p) is = none_idle v d i is
none_brought v d i (Full x) is = none_paying v d i x.kind x.block x.place 256 is

-- what a pending call owes that is no load
pub pending_call_owes : (d : ℕ) (h : PendingCall) (slots : Slots) (a : Act) (v : GhostState) (i : ℕ) → PendingCallFits d h slots a v → is_loading h ≡ false
    → owes (pending v d) i ≡ 0
pending_call_owes d Rest slots a v i fits none = none_idle v d i fits
pending_call_owes d (Making b at differs) slots a v i fits none = ap (λ (p : Pending Nothing). owes p i) fits.making.making
pending_call_owes d (Locking word) slots a v i fits none = none_idle v d i fits.0
pending_call_owes d (Giving j kind x) slots a v i fits none = none_idle v d i fits.idle
pending_call_owes d Brought slots a v i fits none = none_brought v d i (new_of slots a) fits
pending_call_owes d (Saw x) slots a v i fits none = none_idle v d i fits.0
pending_call_owes d (Matched x) slots a v i fits none = none_brought v d i (new_of slots a) fits.0
pending_call_owes d (Refill Turning c x k) slots a v i fits none = absurd (false≢true (sym none))
pending_call_owes d (Refill Checking c x k) slots a v i fits none = none_idle v d i fits.pays
pending_call_owes d (Refill Lacking c x k) slots a v i fits none = none_idle v d i fits.pays
pending_call_owes d (Refill Refilling c x k) slots a v i fits none = none_paying v d i (kind_in_state (model_state v) c) fits.block x.place x.taken fits.pays
pending_call_owes d (Refill Failing c x k) slots a v i fits none = none_paying v d i (kind_in_state (model_state v) c) fits.block x.place x.taken fits.pays
pending_call_owes d (Returning kind b funds k) slots a v i fits none = none_paying v d i kind b fits.0 funds fits.1
pending_call_owes d Clearing slots a v i fits none = none_idle v d i fits

-- another thread's pending call is a load, or none is under way; beyond the threads nobody has a call half done
others_owe : (v : GhostState) (threads : List Thread) (n : ℕ) → AllFit v threads → length (map thread_frame threads) ≡ v.extent.actors → TableInvariant v
    → OthersOwe n (world_state v threads)
others_owe v threads n all many kept e ne quiet i =
    ⊎_elim
    (λ (p : (t : Thread) × (e < length threads) × (slice_get threads e ≡ Some t) × (get_or threads e t ≡ t)).
    let t = p.0 in
    let fits = all.each e t p.2 in
    let h : get_or (map thread_pending threads) e Rest ≡ t.pending_call = get_or-map thread_pending threads e t Rest p.1 ∙ ap thread_pending p.3 in
    pending_call_owes e t.pending_call t.frame.registers.slots.items (task_at t.frame).act v i fits.pending_call (ap is_loading (sym h) ∙ quiet))
    (λ (q : (length threads ≤ e) × (slice_get threads e ≡ None)).
    let le = q.0 in
    none_idle v e i (ap (λ (w : View Nothing). w.pending)
    (get_or_past v.views e used_up (let s = kept.seats.size in let m = length-map threads thread_frame in omega (arith, s, le, many, m)))))
    (slice_get_cases threads e).1

pub has_begun : (v : GhostState) (threads : List Thread) (n : ℕ) (t : Thread) → n < length threads → t ≡ get_or threads n t → FitsThread n t v
    → TableInvariant v
    → AllFit v threads → length (map thread_frame threads) ≡ v.extent.actors
    → IsTidy (frame_of (abstraction (world_state v threads)) n) → HasBegun n (world_state v threads)
has_begun v threads n t lt read fits kept all many tidy =
    let h : get_or (map thread_pending threads) n Rest ≡ t.pending_call = get_or-map thread_pending threads n t Rest lt ∙ ap thread_pending (sym read) in
    let w : get_or (map thread_frame threads) n nowhere ≡ frame_view t.frame = get_or-map thread_frame threads n t nowhere lt ∙ ap thread_frame (sym read) in
    record {
      within = (let m = length-map threads thread_pending in omega (arith, m, lt));
      frame_views = (let m = length-map threads thread_frame in omega (arith, m, lt));
      tried =
          subst (λ (k : FrameView). IsTried (get_or (map thread_pending threads) n Rest) k) (sym w)
          (subst (λ (k : PendingCall). IsTried k (frame_view t.frame)) (sym h) (tried_of t.pending_call t.frame fits.next));
      pending_call =
          subst (λ (k : FrameView). IsUnderWay n v (get_or (map thread_pending threads) n Rest) k.todo) (sym w)
          (subst (λ (k : PendingCall). IsUnderWay n v k (todo t.frame)) (sym h) (begun_of n t.pending_call t.frame v fits.pending_call fits.next));
      alone =
          subst (λ (k : FrameView). IsAlone (get_or (map thread_pending threads) n Rest) k.endings) (sym w)
          (subst (λ (k : PendingCall). IsAlone k t.frame.endings.list) (sym h) (alone_of t.pending_call t.frame fits.next));
      ends = subst (λ (k : FrameView). EndsAll n k.endings v) (sym w) fits.endings.all;
      some = subst (λ (k : FrameView). 1 < length k.slots) (sym w) fits.ready.some;
      seat = fits.seat;
      kept = kept;
      cell =
          subst (λ (k : FrameView). IsInShape v.extent.shape k.todo) (sym w)
          (in_shape v.extent.shape (todo t.frame) (All-drop (λ (x : Task). HasCell v.extent.shape x.act) t.frame.at t.frame.tasks.items fits.cells));
      holds = subst (λ (k : FrameView). HoldsBag n k.slots v) (sym w) fits.holds;
      still = subst (λ (k : FrameView). IsStill k k.todo) (sym w) (still_of t.frame fits.still);
      proper = subst (λ (k : PendingCall). IsProperPendingCall n v k) (sym h) (proper_of n t.pending_call t.frame v fits.pending_call);
      others = others_owe v threads n all many kept;
      tidy = tidy;
      out = subst (λ (k : PendingCall). FundsAreHeld n v k) (sym h) (out_of n t.pending_call t.frame v fits.pending_call);
    }
