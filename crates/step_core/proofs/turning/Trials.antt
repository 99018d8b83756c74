-- What a step of an act that takes more than one does: it is the act, or one on its way.
use Rattle.std.proofs.Common.{◌≡◌, ℕ, Bool, true, false, cond, ◌||◌, ◌⊎◌, List, is_some, ◌==◌}
use Rattle.std.proofs.Common.{Some, None, Option, sym, refl, ◌∙◌, inl, inr}
use Rattle.step_core.proofs.Prelude
use Prelude.{abstraction, Act, cell_bits, CellWord, Clearing, Compare, Compared, CompareSwap}
use Prelude.{cond_both, Count, false≢true, frame_of, FrameView, ghost_after, GhostState}
use Prelude.{gives_back, hand, Handle, is_acting, is_full, is_spent, is_there, kind_in_state, Load}
use Prelude.{locked_pointer, Look, matches, missed, model_state, more_taken, OnCell, PendingCall}
use Prelude.{Refill, Rest, Returning, Saw, silent, Site, slot_pointer, Slots, Step, step_of_act}
use Prelude.{step_of_look, Take, takes, Task, Turning, within, word_of_cell, WorldState}
use Rattle.step_threads.specs.NextSteps.{atomic_step_is_event as is_done}
use Rattle.step_core.proofs.turning.Saying.{Acts}
use Rattle.step_core.proofs.turning.Swapping.{no_more}

-- an act that looks at a cell that is there before it does anything
abbrev pub is_at_cell : Slots → Act → Bool
is_at_cell slots (Load c) = is_there slots c
is_at_cell slots (Compare k c weak) = true
is_at_cell slots _ = false

-- or at the count of what it locks
abbrev pub is_looking : Slots → Act → Bool
is_looking slots a = is_full (locked_pointer slots a) || is_at_cell slots a

-- on the way, or back at the beginning of an act that looks
abbrev pub is_on : Slots → Act → PendingCall → Bool
is_on slots a Rest = is_looking slots a
is_on slots a (Returning kind b funds k) = is_looking slots a
is_on slots a (Refill stage c x k) = false
is_on slots a Clearing = false
is_on slots a _ = true

-- a step on the way, which is no event
pub record Tried (d : ℕ) (v : GhostState) (w : FrameView) (a : Act) (x : Step) : Type 0 where
  pub quiet : is_done v x.atomic_step ≡ false
  pub said : x.said ≡ silent x.said.statement
  pub frame_view : x.frame_view ≡ w
  pub history : (ghost_after v d x.atomic_step).history ≡ v.history
  pub extent : (ghost_after v d x.atomic_step).extent ≡ v.extent
  pub pending_call : is_on w.slots a x.pending_call ≡ true

-- the step that is the act
pub record Done (d : ℕ) (u : WorldState) (k : ℕ) (ts : List Task) (a : Act) (x : Step) : Type 0 where
  pub event : is_done u.ghost_state x.atomic_step ≡ true
  pub so : Acts d u k ts a x
  pub over : is_acting x.pending_call ≡ false

abbrev pub Outcome : ℕ → WorldState → ℕ → List Task → Act → Step → Type 0
Outcome d u k ts a x = Done d u k ts a x ⊎ Tried d u.ghost_state (frame_of (abstraction u) d) a x

-- a step is the act, or one on its way; and the act is no count
abbrev pub Next : ℕ → WorldState → ℕ → List Task → Act → Option Step → Type 0
Next d u k ts a o = (x : Step) × (o ≡ Some x) × Outcome d u k ts a x × ((i : ℕ) → a ≡ Count i → ⊥)

module _ (d : ℕ) (u : WorldState) (k : ℕ) (ts : List Task) (a : Act) (c : Site) (x : CellWord)
    (looking : is_looking (frame_of (abstraction u) d).slots a ≡ true) where
  -- a step on the way that leaves the table as it is
  on_way : (h : PendingCall) → is_on (frame_of (abstraction u) d).slots a h ≡ true
      → Tried d u.ghost_state (frame_of (abstraction u) d) a (within (frame_of (abstraction u) d) k None h)
  on_way h is = record { quiet = refl; said = refl; frame_view = refl; history = refl; extent = refl; pending_call = is }

  -- what a look does that doesn't wait
  pub sees_out : (y : Option Compared) → is_spent x ≡ false
      → Acts d u k ts a (step_of_act u.ghost_state d (frame_of (abstraction u) d) k ts a (Some (OnCell (Look c x y))) Rest)
      → Outcome d u k ts a (step_of_look u.ghost_state d (frame_of (abstraction u) d) k ts a c y x)
  sees_out y spent so =
      let w = frame_of (abstraction u) d in
      let look = step_of_act u.ghost_state d w k ts a (Some (OnCell (Look c x y))) Rest in
      cond_both (is_spent x) (within w k None Rest) (cond (is_some x.owned) (within w k None (Saw x)) look)
      (Outcome d u k ts a)
      (λ t. absurd (false≢true (sym spent ∙ t)))
      (λ f. cond_both (is_some x.owned) (within w k None (Saw x)) look (Outcome d u k ts a) (λ t. inr (on_way (Saw x) refl))
      (λ f. inl (record { event = refl; so = so; over = refl })))

  -- a fund is taken, or the act begins again
  pub takes_out : (y : Option Compared)
      → ((word_of_cell u.ghost_state c == cell_bits x) ≡ true
      → Acts d u k ts a (step_of_act u.ghost_state d (frame_of (abstraction u) d) k ts a (Some (OnCell (Take c x y)))
      (Refill Turning c (more_taken x) k)))
      → Outcome d u k ts a (takes u.ghost_state d (frame_of (abstraction u) d) k ts a c y x)
  takes_out y so =
      let v = u.ghost_state in
      let w = frame_of (abstraction u) d in
      cond_both (word_of_cell v c == cell_bits x) (step_of_act v d w k ts a (Some (OnCell (Take c x y)))
      (Refill Turning c (more_taken x) k)) (within w k None Rest)
      (Outcome d u k ts a) (λ t. inl (record { event = refl; so = so t; over = refl })) (λ f. inr (on_way Rest looking))

  missed_trial : (o : Option Handle) → is_on (frame_of (abstraction u) d).slots a (missed k o) ≡ true
  missed_trial None = looking
  missed_trial (Some p) = looking

  -- the cell is swapped, or what was brought is given back and the act begins again
  pub matches_out : (y : Compared)
      → ((word_of_cell u.ghost_state c == cell_bits x) ≡ true → Acts d u k ts a
      (step_of_act u.ghost_state d (frame_of (abstraction u) d) k ts a (Some (OnCell (CompareSwap c x y)))
      (gives_back (kind_in_state (model_state u.ghost_state) c) k x x.owned)))
      → Outcome d u k ts a (matches u.ghost_state d (frame_of (abstraction u) d) k ts a c y x)
  matches_out y so =
      let v = u.ghost_state in
      let w = frame_of (abstraction u) d in
      let g = gives_back (kind_in_state (model_state v) c) k x x.owned in
      let o = slot_pointer w.slots (hand w.slots) in
      cond_both (word_of_cell v c == cell_bits x) (step_of_act v d w k ts a (Some (OnCell (CompareSwap c x y))) g)
      (within w k None (missed k o)) (Outcome d u k ts a)
      (λ t. inl (record { event = refl; so = so t; over = no_more (kind_in_state (model_state v) c) k x x.owned }))
      (λ f. inr (on_way (missed k o) (missed_trial o)))
