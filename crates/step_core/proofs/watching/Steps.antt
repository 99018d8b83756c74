-- What each step does to the funds that are taken of cells.
use Rattle.std.proofs.Common.{◌≡◌, ℕ, ◌<◌, Bool, true, false, cond, List, is_some, ◌==◌, Some}
use Rattle.std.proofs.Common.{None, Option, option_map, refl, inl, arith, eqb-true}
use Rattle.step_core.proofs.Prelude
use Prelude.{Act, Alias, alias, aliased, as_word, Ask, asks, begins, Block, brings, Brought}
use Prelude.{cell_bits, cell_of_name, CellName, CellWord, Clear, Compare, Compared, compared_in}
use Prelude.{comparing, cond_both, Count, Downgrade, downgrade, Drop, Exchange, Expired, fetches}
use Prelude.{first, FrameView, FromThis, GhostState, gives_back, Giving, Going, going, hand}
use Prelude.{Handle, Holds, HoldsBag, inside, is_enabled, is_last, is_spent, is_there, IsCellWord}
use Prelude.{Kind, kind_at, kind_in_state, least, Leave, leave, Load, Lock, lock, locked_pointer}
use Prelude.{Locking, looks, Make, Making, Matched, matches, may_go, missed, model_state}
use Prelude.{more_taken, Move, Offer, offered, on, on_going, OnShelf, other, owner_slot}
use Prelude.{owner_word, PendingCall, place_in, Put, Read, read_atomic_step, Refill, Rest}
use Prelude.{same_value, Saw, seen, sends, settles, Share, share, shelf_block, shelf_step}
use Prelude.{ShelfAct, Shelve, silent, Site, slot_pointer, slot_value, Step, step_of_act}
use Prelude.{step_of_compare, step_of_look, step_of_swap, Swap, TableInvariant, takes, Task, tell}
use Prelude.{tell_expired, tries, trying, Turning, Unshelve, weak, weak_slot, within, word_of_cell}
use Rattle.step_table.specs.declared.memory.shelf.ShelfStep.TheVariants as shelf
use Rattle.step_core.proofs.watching.Cells.{shelf_off, IsQuiet, Watches, put_in, still, taken}
use Rattle.step_table.specs.declared.cell_steps.cell_step.CellStep.TheVariants as cell_step
use Rattle.step_table.specs.declared.memory.ghost_history.AtomicStep.TheVariants as atomic_step
use Rattle.step_table.proofs.contained.Told.{word_valid}
use Rattle.step_core.proofs.watching.Blocks.{IsThere, alias_off, bring_off, downgrade_off}
use Rattle.step_core.proofs.watching.Blocks.{each_off, leave_off, least_there, lock_off}
use Rattle.step_core.proofs.watching.Blocks.{offered_there, owner_there, prepare_off, share_off}
use Rattle.step_core.proofs.watching.Blocks.{slot_there, weak_there}

-- so it is with a thread that has begun h
abbrev pub IsWatch : GhostState → ℕ → PendingCall → Option Step → Type 0
IsWatch v d h None = Unit {0}
IsWatch v d h (Some x) = Watches v d h x.atomic_step x.pending_call

-- the weak pointer that an act locks is in a slot
locked_is : (w : FrameView) (a : Act) (x : Handle) → locked_pointer w.slots a ≡ Some x → (i : ℕ) × (weak_slot (slot_pointer w.slots i) ≡ Some x)
locked_is w (Lock i must) x e = (i, e)
locked_is w (Make form) x e = cc
locked_is w (Share i) x e = cc
locked_is w (Downgrade i) x e = cc
locked_is w (Put i) x e = cc
locked_is w (Leave i) x e = cc
locked_is w (Clear i) x e = cc
locked_is w (Count i) x e = cc
locked_is w (Expired i) x e = cc
locked_is w (Read i) x e = cc
locked_is w (FromThis i kind) x e = cc
locked_is w (Alias i j field) x e = cc
locked_is w (Move i) x e = cc
locked_is w (Ask q) x e = cc
locked_is w (Offer i c) x e = cc
locked_is w (Swap c) x e = cc
locked_is w (Exchange i c) x e = cc
locked_is w (Holds i c) x e = cc
locked_is w (Load c) x e = cc
locked_is w (Compare i c weak) x e = cc
locked_is w Drop x e = cc
locked_is w (OnShelf y) x e = cc

module _ (v : GhostState) (d : ℕ) (w : FrameView) (kept : TableInvariant v) (seat : d < v.extent.actors) (holds : HoldsBag d w.slots v) where
  in_slot : (i : ℕ) (x : Handle) → slot_pointer w.slots i ≡ Some x → IsThere v x.block
  in_slot i x e = slot_there v d w.slots kept holds i x e

  leaves : (i : ℕ) → Watches v d Rest (option_map (leave (model_state v)) (slot_pointer w.slots i)) Rest
  leaves i =
      still v d Rest (option_map (leave (model_state v)) (slot_pointer w.slots i)) Rest (λ p a. refl)
      (each_off v d (leave (model_state v)) (slot_pointer w.slots i) (λ x e. leave_off v d x.kind x (is_last (model_state v) x) (in_slot i x e)))

  begins_watch : (k : ℕ) (ts : List Task) (o : Option ℕ) → least d (model_state v).stores ≡ o
      → Watches v d Rest (begins w k ts o).atomic_step (begins w k ts o).pending_call
  begins_watch k ts None e = still v d Rest None Rest (λ p a. refl) (λ n valid. refl)
  begins_watch k ts (Some b) e =
      let block : Block = record { 0 = b } in
      still v d Rest (Some (atomic_step.Prepare block)) (Making block 0 false) (λ p a. refl) (prepare_off v d block (least_there v d block kept e))

  trying_watch : (h : PendingCall) (k word : ℕ) → IsQuiet v h → Watches v d h None (trying w k word).pending_call
  trying_watch h k word quiet = still v d h None (trying w k word).pending_call quiet (λ n valid. refl)

  locks_watch : (h : PendingCall) (a : Act) (x : Handle) → IsQuiet v h → locked_pointer w.slots a ≡ Some x
      → Watches v d h (Some (lock (model_state v) x)) Rest
  locks_watch h a x quiet e =
      let l = locked_is w a x e in still v d h (Some (lock (model_state v) x)) Rest quiet (lock_off v d x (weak_there v d w.slots kept holds l.0 x l.1))

  looks_watch : (k : ℕ) (ts : List Task) (a : Act) (o : Option Handle) → locked_pointer w.slots a ≡ o
      → IsWatch v d Rest (Some (on (looks v d w k ts a) (step_of_act v d w k ts a None Rest) o))
  looks_watch k ts a None e = still v d Rest None Rest (λ p a. refl) (λ n valid. refl)
  looks_watch k ts a (Some x) e =
      cond_both (owner_word v x == 0) (step_of_act v d w k ts a (Some (lock (model_state v) x)) Rest) (trying w k (owner_word v x))
      (λ (y : Step). IsWatch v d Rest (Some y)) (λ t. locks_watch Rest a x (λ p q. refl) e)
      (λ t. trying_watch Rest k (owner_word v x) (λ p q. refl))

  pub tries_watch : (k word : ℕ) (ts : List Task) (a : Act) (o : Option Handle) → locked_pointer w.slots a ≡ o
      → IsWatch v d (Locking word) (option_map (tries v d w k ts a word) o)
  tries_watch k word ts a None e = tt
  tries_watch k word ts a (Some x) e =
      cond_both (owner_word v x == word) (step_of_act v d w k ts a (Some (lock (model_state v) x)) Rest) (trying w k (owner_word v x))
      (λ (y : Step). IsWatch v d (Locking word) (Some y)) (λ t. locks_watch (Locking word) a x (λ p q. refl) e)
      (λ t. trying_watch (Locking word) k (owner_word v x) (λ p q. refl))

  asks_watch : (k : ℕ) (ts : List Task) (i : ℕ) (q : Kind) (o : Option Handle)
      → IsWatch v d Rest (Some (on (asks v d w k ts i q) (step_of_act v d w k ts (FromThis i q) None Rest) o))
  asks_watch k ts i q None = still v d Rest None Rest (λ p a. refl) (λ n valid. refl)
  asks_watch k ts i q (Some x) =
      cond_both (is_enabled (model_state v) x) (record { atomic_step = None; pending_call = Giving i q x; frame_view = w; said = silent k })
      (step_of_act v d w k ts (FromThis i q) None Rest) (λ (y : Step). IsWatch v d Rest (Some y))
      (λ t. still v d Rest None (Giving i q x) (λ p a. refl) (λ n valid. refl)) (λ t. still v d Rest None Rest (λ p a. refl) (λ n valid. refl))

  -- a block goes to the shelf or comes from it, if there is one
  shelf_watch : (x : ShelfAct) (o : Option ℕ) → Watches v d Rest (shelf_step x o) Rest
  shelf_watch Shelve None = still v d Rest None Rest (λ p a. refl) (λ n valid. refl)
  shelf_watch Shelve (Some b) = λ c is. inl (shelf_off v d shelf.Shelve (record { 0 = b }) c is, omega arith)
  shelf_watch (Unshelve b) None = λ c is. inl (shelf_off v d shelf.Miss b c is, omega arith)
  shelf_watch (Unshelve b) (Some n) = λ c is. inl (shelf_off v d shelf.Unshelve b c is, omega arith)

  -- a cell is asked, or not
  holds_watch : (b : Bool) (c : Site) (y : CellWord) (so : Bool)
      → Watches v d Rest (cond b (Some (atomic_step.OnCell (cell_step.Holds c y so))) None) Rest
  holds_watch true c y so = still v d Rest (Some (atomic_step.OnCell (cell_step.Holds c y so))) Rest (λ p a. refl) (λ n valid. refl)
  holds_watch false c y so = still v d Rest None Rest (λ p a. refl) (λ n valid. refl)

  -- a value goes into a cell
  swaps_watch : (h : PendingCall) (k : ℕ) (ts : List Task) (a : Act) (c : CellName) (i : ℕ) → IsQuiet v h
      → IsWatch v d h (Some (step_of_swap v d w k ts a c i))
  swaps_watch h k ts a c i quiet =
      let found = seen v (cell_of_name (model_state v) w.slots c) in
      put_in v d (cell_of_name (model_state v) w.slots c) (as_word (slot_value w.slots i)) h (gives_back (kind_at c) k found found.owned) kept quiet
      (word_valid d w.slots v i kept holds) refl

  sends_watch : (k : ℕ) (ts : List Task) (a : Act) (c : CellName) (i : ℕ) (o : Option Handle) → slot_pointer w.slots i ≡ o
      → IsWatch v d Rest (Some (on (brings w k) (step_of_swap v d w k ts a c i) o))
  sends_watch k ts a c i None e = swaps_watch Rest k ts a c i (λ p q. refl)
  sends_watch k ts a c i (Some x) e =
      still v d Rest (Some (atomic_step.OnCell (cell_step.Bring x.kind x.block x.place 256))) Brought (λ p q. refl)
      (bring_off v d x.kind x.block x.place 256 (in_slot i x e))

  going_watch : (k : ℕ) (ts : List Task) (a : Act) (o : Option Going)
      → IsWatch v d Rest (Some (on_going (sends v d w k ts a) (step_of_act v d w k ts a None Rest) o))
  going_watch k ts a None = still v d Rest None Rest (λ p q. refl) (λ n valid. refl)
  going_watch k ts a (Some x) = sends_watch k ts a x.0 x.1 (slot_pointer w.slots x.1) refl

  pub sent_watch : (k : ℕ) (ts : List Task) (a : Act) (o : Option Going)
      → IsWatch v d Brought (option_map (λ (x : Going). step_of_swap v d w k ts a x.0 x.1) o)
  sent_watch k ts a None = tt
  sent_watch k ts a (Some x) = swaps_watch Brought k ts a x.0 x.1 (λ p q. refl)

  -- a cell is looked at
  sees_watch : (k : ℕ) (ts : List Task) (a : Act) (c : Site) (y : Option Compared) (x : CellWord)
      → IsWatch v d Rest (Some (step_of_look v d w k ts a c y x))
  sees_watch k ts a c y x =
      let quiet : IsQuiet v Rest = λ p q. refl in
      cond_both (is_spent x) (within w k None Rest)
      (cond (is_some x.owned) (within w k None (Saw x)) (step_of_act v d w k ts a (Some (atomic_step.OnCell (cell_step.Look c x y))) Rest))
      (λ (s : Step). IsWatch v d Rest (Some s)) (λ t. still v d Rest None Rest quiet (λ n valid. refl))
      (λ t. cond_both (is_some x.owned) (within w k None (Saw x)) (step_of_act v d w k ts a (Some (atomic_step.OnCell (cell_step.Look c x y))) Rest)
      (λ (s : Step). IsWatch v d Rest (Some s)) (λ t. still v d Rest None (Saw x) quiet (λ n valid. refl))
      (λ t. still v d Rest (Some (atomic_step.OnCell (cell_step.Look c x y))) Rest quiet (λ n valid. refl)))

  compares_watch : (k : ℕ) (ts : List Task) (a : Act) (c : Site) (y : Compared) (x : CellWord)
      → IsWatch v d Rest (Some (step_of_compare v d w k ts a c y x))
  compares_watch k ts a c y x =
      cond_both (same_value x y.expected) (within w k None (Saw x)) (step_of_look v d w k ts a c (Some y) x) (λ (s : Step). IsWatch v d Rest (Some s))
      (λ t. still v d Rest None (Saw x) (λ p q. refl) (λ n valid. refl)) (λ t. sees_watch k ts a c (Some y) x)

  pub takes_watch : (k : ℕ) (ts : List Task) (a : Act) (c : Site) (y : Option Compared) (x : CellWord) → IsCellWord x
      → IsWatch v d (Saw x) (Some (takes v d w k ts a c y x))
  takes_watch k ts a c y x valid =
      cond_both (word_of_cell v c == cell_bits x)
      (step_of_act v d w k ts a (Some (atomic_step.OnCell (cell_step.Take c x y))) (Refill Turning c (more_taken x) k)) (within w k None Rest)
      (λ (s : Step). IsWatch v d (Saw x) (Some s)) (λ t. taken v c x k kept valid (eqb-true _ _ t))
      (λ t. still v d (Saw x) None Rest (λ p q. refl) (λ n valid. refl))

  pub matches_watch : (h : PendingCall) (k : ℕ) (ts : List Task) (a : Act) (c : Site) (i : ℕ) (weak : Bool) (x : CellWord) → IsQuiet v h
      → IsWatch v d h (Some (matches v d w k ts a c (compared_in w.slots (comparing w.slots i weak)) x))
  matches_watch h k ts a c i weak x quiet =
      let y = compared_in w.slots (comparing w.slots i weak) in
      cond_both (word_of_cell v c == cell_bits x)
      (step_of_act v d w k ts a (Some (atomic_step.OnCell (cell_step.CompareSwap c x y))) (gives_back (kind_in_state (model_state v) c) k x x.owned))
      (within w k None (missed k (slot_pointer w.slots (hand w.slots)))) (λ (s : Step). IsWatch v d h (Some s))
      (λ t. put_in v d c (as_word (slot_value w.slots (hand w.slots))) h (gives_back (kind_in_state (model_state v) c) k x x.owned) kept quiet
      (word_valid d w.slots v (hand w.slots) kept holds) refl)
      (λ t. still v d h None (missed k (slot_pointer w.slots (hand w.slots))) quiet (λ n valid. refl))

  fetched_watch : (k : ℕ) (ts : List Task) (a : Act) (c : Site) (i : ℕ) (weak : Bool) (x : CellWord) (o : Option Handle)
      → slot_pointer w.slots (hand w.slots) ≡ o
      → IsWatch v d (Saw x) (Some (on (fetches w k x) (matches v d w k ts a c (compared_in w.slots (comparing w.slots i weak)) x) o))
  fetched_watch k ts a c i weak x None e = matches_watch (Saw x) k ts a c i weak x (λ p q. refl)
  fetched_watch k ts a c i weak x (Some y) e =
      still v d (Saw x) (Some (atomic_step.OnCell (cell_step.Bring y.kind y.block y.place 256))) (Matched x) (λ p q. refl)
      (bring_off v d y.kind y.block y.place 256 (in_slot (hand w.slots) y e))

  pub settles_watch : (k : ℕ) (ts : List Task) (a : Act) (c : Site) (i : ℕ) (weak : Bool) (x : CellWord) → IsCellWord x
      → IsWatch v d (Saw x) (Some (settles v d w k ts a c (compared_in w.slots (comparing w.slots i weak)) x))
  settles_watch k ts a c i weak x valid =
      let y = compared_in w.slots (comparing w.slots i weak) in
      cond_both (same_value x y.expected) (on (fetches w k x) (matches v d w k ts a c y x) (slot_pointer w.slots (hand w.slots)))
      (takes v d w k ts a c (Some y) x) (λ (s : Step). IsWatch v d (Saw x) (Some s))
      (λ t. fetched_watch k ts a c i weak x (slot_pointer w.slots (hand w.slots)) refl) (λ t. takes_watch k ts a c (Some y) x valid)

  pub first_watch : (k : ℕ) (ts : List Task) (a : Act) → IsWatch v d Rest (Some (first v d w k ts a))
  first_watch k ts (Make form) = begins_watch k ts (least d (model_state v).stores) refl
  first_watch k ts (Share i) =
      still v d Rest (option_map share (slot_pointer w.slots i)) Rest (λ p q. refl)
      (each_off v d share (slot_pointer w.slots i) (λ x e. share_off v d x.kind x (in_slot i x e)))
  first_watch k ts (Put i) = leaves i
  first_watch k ts (Leave i) = leaves i
  first_watch k ts (Clear i) = leaves i
  first_watch k ts (Count i) =
      still v d Rest (option_map (tell v) (slot_pointer w.slots i)) Rest (λ p q. refl) (each_off v d (tell v) (slot_pointer w.slots i) (λ x e n valid. refl))
  first_watch k ts (Downgrade i) =
      still v d Rest (option_map downgrade (slot_pointer w.slots i)) Rest (λ p q. refl)
      (each_off v d downgrade (slot_pointer w.slots i) (λ x e. downgrade_off v d x (in_slot i x e)))
  first_watch k ts (Lock i must) = looks_watch k ts (Lock i must) (locked_pointer w.slots (Lock i must)) refl
  first_watch k ts (Expired i) =
      still v d Rest (option_map (tell_expired (model_state v)) (slot_pointer w.slots i)) Rest (λ p q. refl)
      (each_off v d (tell_expired (model_state v)) (slot_pointer w.slots i) (λ x e n valid. refl))
  first_watch k ts (Read i) =
      still v d Rest (option_map (read_atomic_step (model_state v)) (inside (slot_pointer w.slots i))) Rest (λ p q. refl)
      (each_off v d (read_atomic_step (model_state v)) (inside (slot_pointer w.slots i)) (λ x e n valid. refl))
  first_watch k ts (FromThis i q) = asks_watch k ts i q (inside (slot_pointer w.slots i))
  first_watch k ts (Alias i j field) =
      let f = alias (aliased field (place_in w.slots j)) in
      still v d Rest (option_map f (owner_slot (slot_pointer w.slots i))) Rest (λ p q. refl)
      (each_off v d f (owner_slot (slot_pointer w.slots i))
      (λ x e. alias_off v d (aliased field (place_in w.slots j)) x (owner_there v d w.slots kept holds i x e)))
  first_watch k ts (Move i) = still v d Rest None Rest (λ p q. refl) (λ n valid. refl)
  first_watch k ts (Ask q) = still v d Rest None Rest (λ p q. refl) (λ n valid. refl)
  first_watch k ts (Offer i c) =
      still v d Rest (option_map share (offered w.slots i c)) Rest (λ p q. refl)
      (each_off v d share (offered w.slots i c) (λ x e. share_off v d x.kind x (offered_there v d w.slots kept holds i x c e)))
  first_watch k ts (Swap c) = going_watch k ts (Swap c) (going w.slots (Swap c))
  first_watch k ts (Exchange i c) = going_watch k ts (Exchange i c) (going w.slots (Exchange i c))
  first_watch k ts (Load c) =
      let x = cell_of_name (model_state v) w.slots c in
      cond_both (is_there w.slots c) (step_of_look v d w k ts (Load c) x None (seen v x)) (step_of_act v d w k ts (Load c) None Rest)
      (λ (s : Step). IsWatch v d Rest (Some s)) (λ t. sees_watch k ts (Load c) x None (seen v x))
      (λ t. still v d Rest None Rest (λ p q. refl) (λ n valid. refl))
  first_watch k ts (Compare i c weak) =
      compares_watch k ts (Compare i c weak) (cell_of_name (model_state v) w.slots c) (compared_in w.slots (comparing w.slots i weak))
      (seen v (cell_of_name (model_state v) w.slots c))
  first_watch k ts (Holds i c) = holds_watch (may_go w.slots c i) _ _ _
  first_watch k ts Drop = leaves (other w.slots)
  first_watch k ts (OnShelf x) = shelf_watch x (shelf_block (model_state v) d x)
