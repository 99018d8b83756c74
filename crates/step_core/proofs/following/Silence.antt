-- A step on the way of an act says nothing.
use Rattle.std.proofs.Common.{◌≡◌, ℕ, true, cond, List, is_some, ◌==◌, Some, None, Option, sym}
use Rattle.std.proofs.Common.{refl, ◌∙◌}
use Rattle.step_core.proofs.Prelude
use Prelude.{Act, Alias, Ask, asks, begins, Block, brings, cell_bits, cell_of_name, CellName}
use Prelude.{CellWord, Checking, Clear, Compare, Compared, compared_in, comparing, cond_both}
use Prelude.{Count, Downgrade, Drop, Exchange, Expired, Failing, false≢true, first, FrameView}
use Prelude.{FromThis, GhostState, Giving, Going, going, Handle, Holds, inside, is_acting}
use Prelude.{is_enabled, is_spent, is_there, Kind, kind_at, Lacking, least, Leave, Load, Lock}
use Prelude.{lock, locked_pointer, looks, Make, model_state, Move, Offer, on, on_going, OnShelf}
use Prelude.{owner_word, Put, Read, Refill, Refilling, refills_on, Rest, same_value, Saw, seen}
use Prelude.{sends, Share, silent, Site, slot_pointer, Stage, Step, step_of_act, step_of_look}
use Prelude.{step_of_swap, Swap, Task, trying, Turning, within, word_of_cell}
use Rattle.step_table.specs.declared.cell_steps.cell_step.CellStep.TheVariants as cell_step
use Rattle.step_table.specs.declared.memory.ghost_history.AtomicStep.TheVariants as atomic_step
use Rattle.step_core.proofs.turning.Swapping.{no_more}

module _ (v : GhostState) (d : ℕ) (w : FrameView) (k : ℕ) (ts : List Task) where
  abbrev IsSilent : Step → Type 0
  IsSilent x = is_acting x.pending_call ≡ true → x.said ≡ silent k

  begins_said : (o : Option ℕ) → IsSilent (begins w k ts o)
  begins_said None = λ t. absurd (false≢true t)
  begins_said (Some b) = λ t. refl

  looks_said : (a : Act) (o : Option Handle) → IsSilent (on (looks v d w k ts a) (step_of_act v d w k ts a None Rest) o)
  looks_said a None = λ t. absurd (false≢true t)
  looks_said a (Some y) =
      cond_both (owner_word v y == 0) (step_of_act v d w k ts a (Some (lock (model_state v) y)) Rest) (trying w k (owner_word v y)) IsSilent
      (λ e t. absurd (false≢true t)) (λ e t. refl)

  asks_said : (i : ℕ) (q : Kind) (o : Option Handle)
      → IsSilent (on (asks v d w k ts i q) (step_of_act v d w k ts (FromThis i q) None Rest) o)
  asks_said i q None = λ t. absurd (false≢true t)
  asks_said i q (Some y) =
      cond_both (is_enabled (model_state v) y) (record { atomic_step = None; pending_call = Giving i q y; frame_view = w; said = silent k })
      (step_of_act v d w k ts (FromThis i q) None Rest) IsSilent (λ e t. refl) (λ e t. absurd (false≢true t))

  sends_said : (a : Act) (c : CellName) (i : ℕ) (o : Option Handle)
      → IsSilent (on (brings w k) (step_of_swap v d w k ts a c i) o)
  sends_said a c i None =
      λ t. let found = seen v (cell_of_name (model_state v) w.slots c) in
      absurd (false≢true (sym (no_more (kind_at c) k found found.owned) ∙ t))
  sends_said a c i (Some p) = λ t. refl

  goes_said : (a : Act) (o : Option Going)
      → IsSilent (on_going (sends v d w k ts a) (step_of_act v d w k ts a None Rest) o)
  goes_said a None = λ t. absurd (false≢true t)
  goes_said a (Some g) = sends_said a g.0 g.1 (slot_pointer w.slots g.1)

  sees_said : (a : Act) (c : Site) (y : Option Compared) (x : CellWord) → IsSilent (step_of_look v d w k ts a c y x)
  sees_said a c y x =
      let look = step_of_act v d w k ts a (Some (atomic_step.OnCell (cell_step.Look c x y))) Rest in
      cond_both (is_spent x) (within w k None Rest) (cond (is_some x.owned) (within w k None (Saw x)) look) IsSilent (λ e t. refl)
      (λ e. cond_both (is_some x.owned) (within w k None (Saw x)) look IsSilent (λ q t. refl) (λ q t. absurd (false≢true t)))

  -- an act that has just begun
  pub first_said : (a : Act) → IsSilent (first v d w k ts a)
  first_said (Make form) = begins_said (least d (model_state v).stores)
  first_said (Lock i must) = looks_said (Lock i must) (locked_pointer w.slots (Lock i must))
  first_said (FromThis i kind) = asks_said i kind (inside (slot_pointer w.slots i))
  first_said (Swap c) = goes_said (Swap c) (going w.slots (Swap c))
  first_said (Exchange i c) = goes_said (Exchange i c) (going w.slots (Exchange i c))
  first_said (Load c) =
      let x = cell_of_name (model_state v) w.slots c in
      cond_both (is_there w.slots c) (step_of_look v d w k ts (Load c) x None (seen v x)) (step_of_act v d w k ts (Load c) None Rest) IsSilent
      (λ e. sees_said (Load c) x None (seen v x)) (λ e t. absurd (false≢true t))
  first_said (Compare i c weak) =
      let x = cell_of_name (model_state v) w.slots c in
      let a = Compare i c weak in
      let y = compared_in w.slots (comparing w.slots i weak) in
      cond_both (same_value (seen v x) y.expected) (within w k None (Saw (seen v x))) (step_of_look v d w k ts a x (Some y) (seen v x)) IsSilent
      (λ e t. refl) (λ e. sees_said a x (Some y) (seen v x))
  first_said (Share i) = λ t. absurd (false≢true t)
  first_said (Downgrade i) = λ t. absurd (false≢true t)
  first_said (Put i) = λ t. absurd (false≢true t)
  first_said (Leave i) = λ t. absurd (false≢true t)
  first_said (Clear i) = λ t. absurd (false≢true t)
  first_said (Count i) = λ t. absurd (false≢true t)
  first_said (Expired i) = λ t. absurd (false≢true t)
  first_said (Read i) = λ t. absurd (false≢true t)
  first_said (Alias i j field) = λ t. absurd (false≢true t)
  first_said (Move i) = λ t. absurd (false≢true t)
  first_said (Ask q) = λ t. absurd (false≢true t)
  first_said (Offer i c) = λ t. absurd (false≢true t)
  first_said (Holds i c) = λ t. absurd (false≢true t)
  first_said Drop = λ t. absurd (false≢true t)
  first_said (OnShelf x) = λ t. absurd (false≢true t)

-- nor does one that turns a fund or puts funds back
pub refills_said : (v : GhostState) (w : FrameView) (stage : Stage) (c : Site) (x : CellWord) (k : ℕ) (b : Block)
    → (refills_on v w stage c x k b).said ≡ silent k
refills_said v w Turning c x k b = refl
refills_said v w Checking c x k b = refl
refills_said v w Lacking c x k b = refl
refills_said v w Refilling c x k b =
    cond_both (word_of_cell v c == cell_bits x) (within w k (Some (atomic_step.OnCell (cell_step.Refill c x.taken))) Rest)
    (within w k None (Refill Failing c x k)) (λ (y : Step). y.said ≡ silent k) (λ e. refl) (λ e. refl)
refills_said v w Failing c x k b = refl
