-- The endings of a thread, step by step.
use Rattle.std.proofs.Common.{◌≡◌, ℕ, ◌<◌, true, false, cond, ◌⊎◌, List, [], ◌∷◌, length, set}
use Rattle.std.proofs.Common.{is_some, ◌==◌, Some, None, Option, sym, refl, ap, ◌∙◌, inl, ⊎_elim}
use Rattle.std.proofs.Common.{arith, get_or-set_same, set-set, eqb-true}
use Rattle.step_core.proofs.Prelude
use Prelude.{abstraction, AbstractState, Block, CellWord, Clearing, cond-false, cond-true}
use Prelude.{cond_both, empties, Ending, ends_on, entry, eqb-false, frame_by, frame_of, FrameView}
use Prelude.{gives_back, hand, handle_as, has_object, held_in, History, is_full, IsEndingAtStage}
use Prelude.{kind_of_member, Member, model_state, nowhere, NumberedHandle, object_of_block}
use Prelude.{Opening, opening, pending_call_by, pending_call_of, PendingCall, Rest, rested}
use Prelude.{returned, seen, set-get_or, silent, slot_of, slot_pointer, staged, Step}
use Prelude.{TableInvariant, unwound, weak, with_endings, within, word_of_cell, world_state_by}
use Prelude.{WorldState, Wound}
use Rattle.control_word.specs.declared.model.event.Event.TheVariants as event
use Rattle.step_table.specs.declared.cell_steps.cell_step.CellStep.TheVariants as cell_step
use Rattle.step_table.specs.declared.memory.ghost_history.AtomicStep.TheVariants as atomic_step
use Rattle.step_threads.specs.AbstractStates.{put_frame, rested_frame}
use Rattle.step_core.proofs.turning.Members.{seen_object, told_member, zero_member}
use Rattle.step_core.proofs.turning.Unwinding.{hand_out, unwound_empty, unwound_finish}
use Rattle.step_core.proofs.turning.Unwinding.{unwound_full}

-- what the thread has begun after its step
pub pending_call_after : (d : ℕ) (u : WorldState) (x : Option Step) → d < length u.pending_calls → pending_call_of (world_state_by d u x) d ≡ pending_call_by
    (pending_call_of u d) x
pending_call_after d u x lt = get_or-set_same u.pending_calls d (pending_call_by (pending_call_of u d) x) Rest lt

pub pending_calls_after : (d : ℕ) (u : WorldState) (x : Option Step) → d < length u.pending_calls → (world_state_by d u x).pending_calls ≡ set u.pending_calls d
    (pending_call_of (world_state_by d u x) d)
pending_calls_after d u x lt = ap (λ (h : PendingCall). set u.pending_calls d h) (sym (pending_call_after d u x lt))

-- where it is after it
pub frame_after : (d : ℕ) (u : WorldState) (x : Option Step) → d < length u.frame_views
    → frame_of (abstraction (world_state_by d u x)) d ≡ frame_by (frame_of (abstraction u) d) x
frame_after d u x lt = get_or-set_same u.frame_views d (frame_by (frame_of (abstraction u) d) x) nowhere lt

-- a thread that stays where it is
pub same_frames : (d : ℕ) (u : WorldState) → set u.frame_views d (frame_of (abstraction u) d) ≡ u.frame_views
same_frames d u = set-get_or u.frame_views d nowhere

pub abstraction_as : (u : WorldState) (h h' : History) (w w' : List FrameView) → h ≡ h' → w ≡ w'
    → ◌≡◌ {A = AbstractState} (record { extent = u.ghost_state.extent; history = h; frame_views = w })
    (record { extent = u.ghost_state.extent; history = h'; frame_views = w' })
abstraction_as u h h' w w' e f = cc

-- an abstract state with thread d here, and this history
abbrev pub moved : AbstractState → ℕ → FrameView → History → AbstractState
moved c d w h = record { extent = c.extent; history = h; frame_views = set c.frame_views d w }

pub rested_moved : (c : AbstractState) (d : ℕ) (w : FrameView) (h : History) → d < length c.frame_views
    → rested d (moved c d w h) ≡ put_frame c d w (rested_frame (opening c.extent) d h w)
rested_moved c d w h lt =
    let x : FrameView → Wound = λ (k : FrameView). rested_frame (opening c.extent) d h k in
    ap (λ (k : FrameView). put_frame (moved c d w h) d k (x k)) (get_or-set_same c.frame_views d w nowhere lt)
    ∙ ap (λ (l : List FrameView). record { extent = c.extent; history = (x w).history; frame_views = l }) (set-set c.frame_views d w _)

-- endings that have come as far as they do by themselves: none is left, or what came out of a member is in hand
abbrev pub IsRested : FrameView → Type 0
IsRested w = (w.endings ≡ []) ⊎ (is_full (slot_pointer w.slots (hand w.slots)) ≡ true)

-- then the abstract state is as it is
still_none : (z : Opening) (d : ℕ) (h : History) (w : FrameView) → w.endings ≡ []
    → rested_frame z d h w ≡ record { history = h; slots = w.slots; endings = w.endings }
still_none z d h w none =
    cond_both (is_full (slot_pointer w.slots (hand w.slots))) (record { history = h; slots = w.slots; endings = w.endings }) (unwound z d w.slots w.endings h)
    (λ (x : Wound). x ≡ record { history = h; slots = w.slots; endings = w.endings }) (λ t. refl)
    (λ t. ap (λ (es : List Ending). unwound z d w.slots es h) none
    ∙ ap (λ (es : List Ending). record { history = h; slots = w.slots; endings = es }) (sym none))

still : (z : Opening) (d : ℕ) (h : History) (w : FrameView) → IsRested w
    → rested_frame z d h w ≡ record { history = h; slots = w.slots; endings = w.endings }
still z d h w is =
    ⊎_elim (λ (none : w.endings ≡ []). still_none z d h w none)
    (λ (full : is_full (slot_pointer w.slots (hand w.slots)) ≡ true). cond-true (is_full (slot_pointer w.slots (hand w.slots))) _ _ full) is

pub rested_same : (c : AbstractState) (d : ℕ) → IsRested (frame_of c d) → rested d c ≡ c
rested_same c d is =
    let w = frame_of c d in
    ap (put_frame c d w) (still (opening c.extent) d c.history w is)
    ∙ ap (λ (l : List FrameView). record { extent = c.extent; history = c.history; frame_views = l }) (set-get_or c.frame_views d nowhere)

pub rested_none : (c : AbstractState) (d : ℕ) → (frame_of c d).endings ≡ [] → rested d c ≡ c
rested_none c d none = rested_same c d (inl none)

-- the abstract state that the endings come to is the same after a step of the first
abbrev pub Same : ℕ → WorldState → Step → Type 0
Same d u x = (rested d (abstraction (world_state_by d u (Some x))) ≡ rested d (abstraction u)) × (returned x.pending_call ≡ Rest)

-- an object that ends in the thread's hands, where nothing is in hand
module _ (d : ℕ) (u : WorldState) (e : Ending) (es : List Ending) (lt : d < length u.frame_views) (is : (frame_of (abstraction u) d).endings ≡ e ∷ es)
    (free : let w = frame_of (abstraction u) d in is_full (slot_pointer w.slots (hand w.slots)) ≡ false) where
  -- the endings go on from here
  unwound_now : let w = frame_of (abstraction u) d in
      rested_frame (opening u.ghost_state.extent) d u.ghost_state.history w ≡ unwound (opening u.ghost_state.extent) d w.slots (e ∷ es) u.ghost_state.history
  unwound_now =
      let w = frame_of (abstraction u) d in
      cond-false (is_full (slot_pointer w.slots (hand w.slots))) _ _ free
      ∙ ap (λ (l : List Ending). unwound (opening u.ghost_state.extent) d w.slots l u.ghost_state.history) is

  -- and where they come to the same from there
  wound_on : (l : List Ending) (h : History) → let w = frame_of (abstraction u) d in
      let z = opening u.ghost_state.extent in
      unwound z d w.slots l h ≡ unwound z d w.slots (e ∷ es) u.ghost_state.history → rested d (moved (abstraction u) d (with_endings w l) h) ≡ rested d
      (abstraction u)
  wound_on l h same =
      let w = frame_of (abstraction u) d in
      rested_moved (abstraction u) d (with_endings w l) h lt
      ∙ ap (put_frame (abstraction u) d w) (cond-false (is_full (slot_pointer w.slots (hand w.slots))) _ _ free ∙ same ∙ sym unwound_now)

  finish_so : e.stage ≡ 3
      → let w = frame_of (abstraction u) d in
      let f = atomic_step.Finish e.block (weak (model_state u.ghost_state) (object_of_block u.ghost_state e.block) == 0) in
      Same d u (record { atomic_step = Some f; pending_call = Rest; frame_view = with_endings w es; said = silent e.statement })
  finish_so three = (
    wound_on es _ (unwound_finish (opening u.ghost_state.extent) d (frame_of (abstraction u) d).slots e es u.ghost_state.history three),
    refl,
  )

  look_so : Same d u (within (frame_of (abstraction u) d) e.statement None Clearing)
  look_so =
      let same : abstraction (world_state_by d u (Some (within (frame_of (abstraction u) d) e.statement None Clearing))) ≡ abstraction u =
      abstraction_as u _ _ _ _ refl (same_frames d u) in
      (ap (rested d) same, refl)

  module _ (less : e.stage < 3) where
    -- a member without an object goes out of it
    empty_so : (h : NumberedHandle) → h ≡ ((model_state u.ghost_state).object (object_of_block u.ghost_state e.block)).member e.stage → has_object h ≡ false
        → rested d (moved (abstraction u) d (with_endings (frame_of (abstraction u) d) (staged e ∷ es))
        (entry d (event.ClearMember (object_of_block u.ghost_state e.block) e.stage h) ∷ u.ghost_state.history)) ≡ rested d (abstraction u)
    empty_so h told bare =
        let w = frame_of (abstraction u) d in
        let z = opening u.ghost_state.extent in
        let f : NumberedHandle → History = λ (y : NumberedHandle). entry d (event.ClearMember (object_of_block u.ghost_state e.block) e.stage y)
        ∷ u.ghost_state.history in
        wound_on (staged e ∷ es) (f h)
        (ap (λ (y : NumberedHandle). unwound z d w.slots (staged e ∷ es) (f y)) told
        ∙ unwound_empty z d w.slots e es u.ghost_state.history less (ap has_object (sym told) ∙ bare))

    clear_so : (word_of_cell u.ghost_state (Member e.block e.stage) == 0) ≡ true → TableInvariant u.ghost_state → d < u.ghost_state.extent.actors
        → IsEndingAtStage d e
        u.ghost_state
        → Same d u (within (with_endings (frame_of (abstraction u) d) (staged e ∷ es)) e.statement (Some (atomic_step.Clear e.block e.stage)) Rest)
    clear_so zero kept seat end = (
      empty_so _ (sym (zero_member u.ghost_state d e.block e.stage kept seat end.ending less zero)) refl,
      refl,
    )

    -- what a member holds is taken out, by whether it has an object
    abbrev taken : CellWord → Option Block → Step
    taken x o =
        let w = frame_of (abstraction u) d in
        let s = model_state u.ghost_state in
        let slots = cond (is_some o) (set w.slots (hand w.slots) (slot_of s (held_in s (Member e.block e.stage)))) w.slots in
        within (record { slots = slots; taken = w.taken; endings = staged e ∷ es; todo = w.todo }) e.statement
        (Some (atomic_step.OnCell (cell_step.TakeOut e.block e.stage x))) (gives_back (kind_of_member 2 e.stage) e.statement x o)

    module _ (x : CellWord)
        (told : handle_as (model_state u.ghost_state) (kind_of_member 2 e.stage) x ≡
        ((model_state u.ghost_state).object (object_of_block u.ghost_state e.block)).member
        e.stage) where
      taken_bare : has_object (((model_state u.ghost_state).object (object_of_block u.ghost_state e.block)).member e.stage) ≡ false → Same d u (taken x None)
      taken_bare bare = (empty_so _ told (ap has_object told ∙ bare), refl)

      taken_full : (b : Block) → 0 < length (frame_of (abstraction u) d).slots
          → has_object (((model_state u.ghost_state).object (object_of_block u.ghost_state e.block)).member e.stage) ≡ true → Same d u (taken x (Some b))
      taken_full b some full =
          let w = frame_of (abstraction u) d in
          let s = model_state u.ghost_state in
          let z = opening u.ghost_state.extent in
          let f : NumberedHandle → History = λ (y : NumberedHandle). entry d (event.ClearMember (object_of_block u.ghost_state e.block) e.stage y)
          ∷ u.ghost_state.history in
          let l = set w.slots (hand w.slots) (slot_of s ((s.object (object_of_block u.ghost_state e.block)).member e.stage)) in
          let w' : FrameView = record { slots = l; taken = w.taken; endings = staged e ∷ es; todo = w.todo } in (
            rested_moved (abstraction u) d w' (f (handle_as s (kind_of_member 2 e.stage) x)) lt
                ∙ ap (put_frame (abstraction u) d w) (cond-true (is_full (slot_pointer l (hand l))) _ _ (hand_out s w.slots _ some full)
                ∙ ap (λ (y : NumberedHandle). record { history = f y; slots = l; endings = staged e ∷ es }) told
                ∙ sym (unwound_full z d w.slots e es u.ghost_state.history less full) ∙ sym unwound_now),
            refl,
          )

    pub take_step : TableInvariant u.ghost_state → d < u.ghost_state.extent.actors → IsEndingAtStage d e u.ghost_state
        → 0 < length (frame_of (abstraction u) d).slots
        → Same d u (empties u.ghost_state (frame_of (abstraction u) d) e es)
    take_step kept seat end some = go (seen u.ghost_state (Member e.block e.stage)).owned refl
      where
        go : (o : Option Block) → (seen u.ghost_state (Member e.block e.stage)).owned ≡ o → Same d u (taken (seen u.ghost_state (Member e.block e.stage)) o)
        go None q =
            taken_bare (seen u.ghost_state (Member e.block e.stage)) (told_member u.ghost_state d e.block e.stage kept seat end.ending less)
            (seen_object u.ghost_state e.block e.stage ∙ ap is_some q)
        go (Some b) q =
            taken_full (seen u.ghost_state (Member e.block e.stage)) (told_member u.ghost_state d e.block e.stage kept seat end.ending less) b some
            (seen_object u.ghost_state e.block e.stage ∙ ap is_some q)

  pub end_step : TableInvariant u.ghost_state → d < u.ghost_state.extent.actors → IsEndingAtStage d e u.ghost_state → Same d u
      (ends_on u.ghost_state (frame_of (abstraction u) d) e es)
  end_step kept seat end =
      let w = frame_of (abstraction u) d in
      let m = within (with_endings w (staged e ∷ es)) e.statement (Some (atomic_step.Clear e.block e.stage)) Rest in
      let l = within w e.statement None Clearing in
      cond_both (e.stage == 3) _ (cond (word_of_cell u.ghost_state (Member e.block e.stage) == 0) m l) (Same d u)
      (λ t. finish_so (eqb-true e.stage 3 t))
      (λ t. let ne = eqb-false e.stage 3 t in
      let most = end.within in
      let less : e.stage < 3 = omega (arith, most, ne) in
      cond_both (word_of_cell u.ghost_state (Member e.block e.stage) == 0) m l (Same d u) (λ z. clear_so less z kept seat end) (λ z. look_so))
