-- The steps of a load or a compare, case by case: what is so of each is so of all.
use Rattle.std.proofs.Common.{◌≡◌, ℕ, Bool, cond, List, [], ◌∷◌, is_some, ◌==◌, Some, None, Option}
use Rattle.std.proofs.Common.{option_map, refl}
use Rattle.step_core.proofs.Prelude
use Prelude.{Act, Alias, Ask, Block, cell_bits, cell_of_name, CellName, CellWord, Checking, Clear}
use Prelude.{Compare, Compared, compared_in, comparing, cond_both, Count, Downgrade, Drop}
use Prelude.{Exchange, Expired, Failing, fetches, first, FrameView, FromThis, GhostState}
use Prelude.{gives_back, hand, Handle, Holds, is_drained, is_low, is_spent, is_there, Kind}
use Prelude.{kind_in_state, Lacking, Leave, Load, Lock, Make, matched, matched_on, matches, missed}
use Prelude.{model_state, more_taken, Move, Offer, on, OnShelf, PendingCall, Place, Put, Read}
use Prelude.{Refill, Refilling, refills_on, Rest, same_value, Saw, saw, saw_on, seen, settles}
use Prelude.{Share, Site, slot_pointer, Stage, Step, step_of_act, step_of_compare, step_of_look}
use Prelude.{Swap, takes, Task, Turning, within, word_of_cell}
use Rattle.step_table.specs.declared.cell_steps.cell_step.CellStep.TheVariants as cell_step
use Rattle.step_table.specs.declared.memory.ghost_history.AtomicStep.TheVariants as atomic_step

-- steps of a thread that rests or is within an act, so that nothing is done; that look at a cell, take a fund of it, or
-- swap it; and those on funds
pub record IsEach (v : GhostState) (d : ℕ) (w : FrameView) (k : ℕ) (ts : List Task) (a : Act) (c : Site) (P : Step → Type 0) : Type 0 where
  pub quiet : (h : PendingCall) → P (within w k None h)
  pub look : (x : CellWord) (y : Option Compared) → P (step_of_act v d w k ts a (Some (atomic_step.OnCell (cell_step.Look c x y))) Rest)
  pub take : (x : CellWord) (y : Option Compared) (h : PendingCall) → P (step_of_act v d w k ts a (Some (atomic_step.OnCell (cell_step.Take c x y))) h)
  pub swap : (x : CellWord) (y : Compared) (h : PendingCall) → P (step_of_act v d w k ts a (Some (atomic_step.OnCell (cell_step.CompareSwap c x y))) h)
  pub bring : (x : CellWord) (p : Handle) → P (fetches w k x p)

pub each_sees : (v : GhostState) (d : ℕ) (w : FrameView) (k : ℕ) (ts : List Task) (a : Act) (c : Site) (P : Step → Type 0) → IsEach v d w k ts a c P
    → (y : Option Compared) (x : CellWord) → P (step_of_look v d w k ts a c y x)
each_sees v d w k ts a c P each y x =
    let look = step_of_act v d w k ts a (Some (atomic_step.OnCell (cell_step.Look c x y))) Rest in
    cond_both (is_spent x) (within w k None Rest) (cond (is_some x.owned) (within w k None (Saw x)) look) P (λ e. each.quiet Rest)
    (λ e. cond_both (is_some x.owned) (within w k None (Saw x)) look P (λ f. each.quiet (Saw x)) (λ f. each.look x y))

pub each_compares : (v : GhostState) (d : ℕ) (w : FrameView) (k : ℕ) (ts : List Task) (a : Act) (c : Site) (P : Step → Type 0) → IsEach v d w k ts a c P
    → (y : Compared) (x : CellWord) → P (step_of_compare v d w k ts a c y x)
each_compares v d w k ts a c P each y x =
    cond_both (same_value x y.expected) (within w k None (Saw x)) (step_of_look v d w k ts a c (Some y) x) P (λ e. each.quiet (Saw x))
    (λ e. each_sees v d w k ts a c P each (Some y) x)

-- a load, which is refused where its cell isn't there
pub each_load : (v : GhostState) (d : ℕ) (w : FrameView) (k : ℕ) (ts : List Task) (c : CellName) (P : Step → Type 0)
    → IsEach v d w k ts (Load c) (cell_of_name (model_state v) w.slots c) P → P (step_of_act v d w k ts (Load c) None Rest)
    → P (first v d w k ts (Load c))
each_load v d w k ts c P each refused =
    let x = cell_of_name (model_state v) w.slots c in
    cond_both (is_there w.slots c) (step_of_look v d w k ts (Load c) x None (seen v x)) (step_of_act v d w k ts (Load c) None Rest) P
    (λ e. each_sees v d w k ts (Load c) x P each None (seen v x)) (λ e. refused)

each_takes : (v : GhostState) (d : ℕ) (w : FrameView) (k : ℕ) (ts : List Task) (a : Act) (c : Site) (P : Step → Type 0) → IsEach v d w k ts a c P
    → (y : Option Compared) (x : CellWord) → P (takes v d w k ts a c y x)
each_takes v d w k ts a c P each y x =
    cond_both (word_of_cell v c == cell_bits x)
    (step_of_act v d w k ts a (Some (atomic_step.OnCell (cell_step.Take c x y))) (Refill Turning c (more_taken x) k)) (within w k None Rest) P
    (λ e. each.take x y (Refill Turning c (more_taken x) k)) (λ e. each.quiet Rest)

each_matches : (v : GhostState) (d : ℕ) (w : FrameView) (k : ℕ) (ts : List Task) (a : Act) (c : Site) (P : Step → Type 0) → IsEach v d w k ts a c P
    → (y : Compared) (x : CellWord) → P (matches v d w k ts a c y x)
each_matches v d w k ts a c P each y x =
    let h = gives_back (kind_in_state (model_state v) c) k x x.owned in
    let m = missed k (slot_pointer w.slots (hand w.slots)) in
    cond_both (word_of_cell v c == cell_bits x) (step_of_act v d w k ts a (Some (atomic_step.OnCell (cell_step.CompareSwap c x y))) h) (within w k None m) P
    (λ e. each.swap x y h) (λ e. each.quiet m)

each_settles : (v : GhostState) (d : ℕ) (w : FrameView) (k : ℕ) (ts : List Task) (a : Act) (c : Site) (P : Step → Type 0) → IsEach v d w k ts a c P
    → (y : Compared) (x : CellWord) → P (settles v d w k ts a c y x)
each_settles v d w k ts a c P each y x =
    cond_both (same_value x y.expected) (on (fetches w k x) (matches v d w k ts a c y x) (slot_pointer w.slots (hand w.slots)))
    (takes v d w k ts a c (Some y) x) P (λ e. go (slot_pointer w.slots (hand w.slots))) (λ e. each_takes v d w k ts a c P each (Some y) x)
  where
    go : (o : Option Handle) → P (on (fetches w k x) (matches v d w k ts a c y x) o)
    go None = each_matches v d w k ts a c P each y x
    go (Some p) = each.bring x p

-- each act that may be half done
pub record IsEachAct (v : GhostState) (d : ℕ) (w : FrameView) (k : ℕ) (ts : List Task) (P : Option Step → Type 0) : Type 0 where
  pub none : P None
  pub load : (c : CellName) → IsEach v d w k ts (Load c) (cell_of_name (model_state v) w.slots c) (λ (x : Step). P (Some x))
  pub compare : (i : ℕ) (c : CellName) (weak : Bool)
      → IsEach v d w k ts (Compare i c weak) (cell_of_name (model_state v) w.slots c) (λ (x : Step). P (Some x))

saw_act : (v : GhostState) (d : ℕ) (w : FrameView) (k : ℕ) (ts : List Task) (P : Option Step → Type 0) → IsEachAct v d w k ts P → (x : CellWord) (a : Act)
    → P (saw_on v d w k ts x a)
saw_act v d w k ts P each x (Load c) = each_takes v d w k ts (Load c) (cell_of_name (model_state v) w.slots c) (λ (s : Step). P (Some s)) (each.load c) None x
saw_act v d w k ts P each x (Compare i c weak) =
    each_settles v d w k ts (Compare i c weak) (cell_of_name (model_state v) w.slots c) (λ (s : Step). P (Some s)) (each.compare i c weak)
    (compared_in w.slots (comparing w.slots i weak)) x
saw_act v d w k ts P each x (Make form) = each.none
saw_act v d w k ts P each x (Share i) = each.none
saw_act v d w k ts P each x (Downgrade i) = each.none
saw_act v d w k ts P each x (Lock i must) = each.none
saw_act v d w k ts P each x (Put i) = each.none
saw_act v d w k ts P each x (Leave i) = each.none
saw_act v d w k ts P each x (Clear i) = each.none
saw_act v d w k ts P each x (Count i) = each.none
saw_act v d w k ts P each x (Expired i) = each.none
saw_act v d w k ts P each x (Read i) = each.none
saw_act v d w k ts P each x (FromThis i kind) = each.none
saw_act v d w k ts P each x (Alias i j field) = each.none
saw_act v d w k ts P each x (Move i) = each.none
saw_act v d w k ts P each x (Ask q) = each.none
saw_act v d w k ts P each x (Offer i c) = each.none
saw_act v d w k ts P each x (Swap c) = each.none
saw_act v d w k ts P each x (Exchange i c) = each.none
saw_act v d w k ts P each x (Holds i c) = each.none
saw_act v d w k ts P each x Drop = each.none
saw_act v d w k ts P each x (OnShelf y) = each.none

matched_act : (v : GhostState) (d : ℕ) (w : FrameView) (k : ℕ) (ts : List Task) (P : Option Step → Type 0) → IsEachAct v d w k ts P → (x : CellWord) (a : Act)
    → P (matched_on v d w k ts x a)
matched_act v d w k ts P each x (Compare i c weak) =
    each_matches v d w k ts (Compare i c weak) (cell_of_name (model_state v) w.slots c) (λ (s : Step). P (Some s)) (each.compare i c weak)
    (compared_in w.slots (comparing w.slots i weak)) x
matched_act v d w k ts P each x (Load c) = each.none
matched_act v d w k ts P each x (Make form) = each.none
matched_act v d w k ts P each x (Share i) = each.none
matched_act v d w k ts P each x (Downgrade i) = each.none
matched_act v d w k ts P each x (Lock i must) = each.none
matched_act v d w k ts P each x (Put i) = each.none
matched_act v d w k ts P each x (Leave i) = each.none
matched_act v d w k ts P each x (Clear i) = each.none
matched_act v d w k ts P each x (Count i) = each.none
matched_act v d w k ts P each x (Expired i) = each.none
matched_act v d w k ts P each x (Read i) = each.none
matched_act v d w k ts P each x (FromThis i kind) = each.none
matched_act v d w k ts P each x (Alias i j field) = each.none
matched_act v d w k ts P each x (Move i) = each.none
matched_act v d w k ts P each x (Ask q) = each.none
matched_act v d w k ts P each x (Offer i c) = each.none
matched_act v d w k ts P each x (Swap c) = each.none
matched_act v d w k ts P each x (Exchange i c) = each.none
matched_act v d w k ts P each x (Holds i c) = each.none
matched_act v d w k ts P each x Drop = each.none
matched_act v d w k ts P each x (OnShelf y) = each.none

pub each_saw : (v : GhostState) (d : ℕ) (w : FrameView) (P : Option Step → Type 0) (x : CellWord) (ts : List Task) → P None
    → ((t : Task) (us : List Task) → ts ≡ t ∷ us → IsEachAct v d w t.statement us P) → P (saw v d w x ts)
each_saw v d w P x [] none each = none
each_saw v d w P x (t ∷ us) none each = saw_act v d w t.statement us P (each t us refl) x t.act

pub each_matched : (v : GhostState) (d : ℕ) (w : FrameView) (P : Option Step → Type 0) (x : CellWord) (ts : List Task) → P None
    → ((t : Task) (us : List Task) → ts ≡ t ∷ us → IsEachAct v d w t.statement us P) → P (matched v d w x ts)
each_matched v d w P x [] none each = none
each_matched v d w P x (t ∷ us) none each = matched_act v d w t.statement us P (each t us refl) x t.act

-- of a refill: nothing is done, or a step on funds
pub record IsEachRefill (v : GhostState) (w : FrameView) (k : ℕ) (P : Step → Type 0) : Type 0 where
  pub quiet : (h : PendingCall) → P (within w k None h)
  pub turn : (kind : Kind) (b : Block) (h : PendingCall) → P (within w k (Some (atomic_step.OnCell (cell_step.Turn kind b))) h)
  pub bring : (kind : Kind) (b : Block) (p : Option Place) (n : ℕ) (h : PendingCall) → P (within w k (Some (atomic_step.OnCell (cell_step.Bring kind b p n))) h)
  pub back : (kind : Kind) (b : Block) (n : ℕ) (h : PendingCall) → P (within w k (Some (atomic_step.OnCell (cell_step.GiveBack kind b n))) h)
  pub refill : (c : Site) (n : ℕ) (h : PendingCall) → P (within w k (Some (atomic_step.OnCell (cell_step.Refill c n))) h)

refill_stage : (v : GhostState) (w : FrameView) (k : ℕ) (P : Step → Type 0) → IsEachRefill v w k P → (c : Site) (x : CellWord) (b : Block) (stage : Stage)
    → P (refills_on v w stage c x k b)
refill_stage v w k P each c x b Turning = each.turn (kind_in_state (model_state v) c) b (cond (is_low x) (Refill Checking c x k) Rest)
refill_stage v w k P each c x b Checking = each.quiet (cond (is_drained x (seen v c)) (Refill Lacking c (seen v c) k) Rest)
refill_stage v w k P each c x b Lacking = each.bring (kind_in_state (model_state v) c) b x.place x.taken (Refill Refilling c x k)
refill_stage v w k P each c x b Refilling =
    cond_both (word_of_cell v c == cell_bits x) (within w k (Some (atomic_step.OnCell (cell_step.Refill c x.taken))) Rest)
    (within w k None (Refill Failing c x k)) P (λ e. each.refill c x.taken Rest) (λ e. each.quiet (Refill Failing c x k))
refill_stage v w k P each c x b Failing = each.back (kind_in_state (model_state v) c) b x.taken (Refill Checking c x k)

pub each_refill : (v : GhostState) (w : FrameView) (k : ℕ) (P : Option Step → Type 0) → P None → IsEachRefill v w k (λ (x : Step). P (Some x))
    → (stage : Stage) (c : Site) (x : CellWord) (o : Option Block) → P (option_map (refills_on v w stage c x k) o)
each_refill v w k P none each stage c x None = none
each_refill v w k P none each stage c x (Some b) = refill_stage v w k (λ (s : Step). P (Some s)) each c x b stage
