-- A step that is an act, one that is none, and the steps of an object's end.
use Rattle.std.proofs.Common.{◌≡◌, ℕ, ◌<◌, Bool, false, cond, List, ◌∷◌, length, set, ◌==◌, Some}
use Rattle.std.proofs.Common.{None, Option, sym, refl, ap, ◌∙◌, subst, inl, inr, arith, eqb-true}
use Rattle.step_core.proofs.Prelude
use Prelude.{abstraction, Ahead, ahead, ahead_of, AnEnd, atomic_step_is_event, Clearing}
use Prelude.{cond-false, cond_both, DoesAhead, DoesNext, empties, empty, Ending, ends_on, entry}
use Prelude.{eqb-false, Event, frame_of, FrameView, ghost_after, GhostState, hand, is_full}
use Prelude.{IsEndingAtStage, kind_of_member, Member, model_state, no_worth, Nothing}
use Prelude.{NumberedHandle, object_of_block, Performs, put_on, Rest, said_by, silent, slot_of}
use Prelude.{slot_pointer, spoken, spoken_by, staged, Step, Stepped, stepped, TableInvariant}
use Prelude.{TraceLabel, weak, with_endings, within, word_of_cell, world_state_by, WorldState}
use Rattle.control_word.specs.declared.model.event.Event.TheVariants as event
use Rattle.step_table.specs.declared.memory.ghost_history.AtomicStep.TheVariants as atomic_step
use Rattle.step_threads.specs.declared.said.Stepped.TheVariants as answered
use Rattle.step_core.proofs.turning.Ending.{same_frames, abstraction_as, frame_after}
use Rattle.step_core.proofs.turning.Members.{seen_object, told_member}

-- a step says what it says
said_step : (v : GhostState) (x : Step) → said_by (stepped v (Some x)) ≡ Some x.said
said_step v x =
    cond_both (atomic_step_is_event v x.atomic_step) (answered.Event x.said) (answered.Quiet x.said) (λ (r : Stepped). said_by r ≡ Some x.said)
    (λ e. refl) (λ e. refl)

-- what step x of thread d does, with this event
abbrev pub trace_label_of : ℕ → Step → Option (Event Nothing) → TraceLabel Nothing
trace_label_of d x y = record { desk = d; event = y; said = x.said }

module _ (d : ℕ) (u : WorldState) (x : Step) where
  -- an act was made
  pub made : (y : Option (Event Nothing)) → d < length u.frame_views → (ghost_after u.ghost_state d x.atomic_step).history ≡ put_on d y u.ghost_state.history
      → DoesNext no_worth (model_state u.ghost_state) (frame_of (abstraction u) d) (trace_label_of d x y) x.frame_view
      → Performs d u (stepped u.ghost_state (Some x)) (world_state_by d u (Some x))
  made y lt history does =
      inr (record {
        trace_label = trace_label_of d x y;
        desk = refl;
        does = subst (λ (m : FrameView). DoesNext no_worth (model_state u.ghost_state) (frame_of (abstraction u) d) (trace_label_of d x y) m)
            (sym (frame_after d u (Some x) lt)) does;
        history = history;
        says = said_step u.ghost_state x;
      })

  -- or none was
  pub passed : x.said ≡ silent x.said.statement → abstraction (world_state_by d u (Some x)) ≡ abstraction u
      → Performs d u (stepped u.ghost_state (Some x)) (world_state_by d u (Some x))
  passed said stays =
      inl (record {
        silent = ap (spoken_by d) (said_step u.ghost_state x) ∙ ap (spoken d) said;
        stays = stays;
      })

-- an object that ends in the thread's hands, where nothing is in hand
module _ (d : ℕ) (u : WorldState) (e : Ending) (es : List Ending) (lt : d < length u.frame_views) (is : (frame_of (abstraction u) d).endings ≡ e ∷ es)
    (free : let w = frame_of (abstraction u) d in is_full (slot_pointer w.slots (hand w.slots)) ≡ false) (kept : TableInvariant u.ghost_state)
    (seat : d < u.ghost_state.extent.actors) (end : IsEndingAtStage d e u.ghost_state) where
  next_end : ahead (frame_of (abstraction u) d) ≡ AnEnd e es
  next_end =
      let w = frame_of (abstraction u) d in
      ap (λ (l : List Ending). ahead_of w.slots l w.todo) is ∙ cond-false (is_full (slot_pointer w.slots (hand w.slots))) _ _ free

  ending_made : (x : Step) (y : Option (Event Nothing)) → (ghost_after u.ghost_state d x.atomic_step).history ≡ put_on d y u.ghost_state.history
      → DoesAhead no_worth (model_state u.ghost_state) (frame_of (abstraction u) d) (trace_label_of d x y) x.frame_view (AnEnd e es)
      → Performs d u (stepped u.ghost_state (Some x)) (world_state_by d u (Some x))
  ending_made x y history does =
      let w = frame_of (abstraction u) d in
      made d u x y lt history
      (subst (λ (a : Ahead). DoesAhead no_worth (model_state u.ghost_state) w (trace_label_of d x y) x.frame_view a) (sym next_end) does)

  abbrev cleared_event : NumberedHandle → Event Nothing
  cleared_event h = event.ClearMember (object_of_block u.ghost_state e.block) e.stage h

  -- what a member holds is taken out
  pub takes_out : e.stage < 3
      → let x = empties u.ghost_state (frame_of (abstraction u) d) e es in Performs d u (stepped u.ghost_state (Some x)) (world_state_by d u (Some x))
  takes_out less =
      let w = frame_of (abstraction u) d in
      let v = u.ghost_state in
      let s = model_state v in
      let h = (s.object (object_of_block v e.block)).member e.stage in
      ending_made (empties v w e es) (Some (cleared_event h))
      (ap (λ (q : NumberedHandle). entry d (cleared_event q) ∷ v.history) (told_member v d e.block e.stage kept seat end.ending less))
      (inl (record {
        held = h;
        some = less;
        makes = refl;
        says = refl;
        goes = ap (λ (b : Bool). let l = cond b (set w.slots (hand w.slots) (slot_of s h)) w.slots in
            let m : FrameView = record { slots = l; taken = w.taken; endings = staged e ∷ es; todo = w.todo } in m)
            (sym (seen_object v e.block e.stage));
      }))

  -- a member without an object is cleared by a look, and an object without a member left is finished
  pub ends_next : let x = ends_on u.ghost_state (frame_of (abstraction u) d) e es in Performs d u (stepped u.ghost_state (Some x)) (world_state_by d u (Some x))
  ends_next =
      let w = frame_of (abstraction u) d in
      let v = u.ghost_state in
      let vacant = weak (model_state v) (object_of_block v e.block) == 0 in
      let f : Step = record
      { atomic_step = Some (atomic_step.Finish e.block vacant); pending_call = Rest; frame_view = with_endings w es; said = silent e.statement } in
      let m = within (with_endings w (staged e ∷ es)) e.statement (Some (atomic_step.Clear e.block e.stage)) Rest in
      let l = within w e.statement None Clearing in
      cond_both (e.stage == 3) f (cond (word_of_cell v (Member e.block e.stage) == 0) m l)
      (λ (x : Step). Performs d u (stepped v (Some x)) (world_state_by d u (Some x)))
      (λ t. ending_made f (Some (event.Finish (object_of_block v e.block) vacant tt)) refl
      (inr (record { vacant = vacant; value = tt; none = (let q = eqb-true e.stage 3 t in omega (arith, q)); makes = refl; says = refl; goes = refl })))
      (λ t. let ne = eqb-false e.stage 3 t in
      let most = end.within in
      let less : e.stage < 3 = omega (arith, most, ne) in
      cond_both (word_of_cell v (Member e.block e.stage) == 0) m l
      (λ (x : Step). Performs d u (stepped v (Some x)) (world_state_by d u (Some x)))
      (λ z. ending_made m (Some (cleared_event (empty (kind_of_member 2 e.stage)))) refl
      (inl (record { held = empty (kind_of_member 2 e.stage); some = less; makes = refl; says = refl; goes = refl })))
      (λ z. passed d u l refl (abstraction_as u _ _ _ _ refl (same_frames d u))))
