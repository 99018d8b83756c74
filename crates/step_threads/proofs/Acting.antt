-- How a thread makes the act that it is at, with no object that ends in its hands.
use Rattle.std.proofs.Common.{◌≡◌, ℕ, ◌<◌, Bool, true, false, cond, not, ◌&&◌, [], length, set}
use Rattle.std.proofs.Common.{is_some, ◌==◌, Some, None, All, Option, option_map, sym, refl, ap}
use Rattle.std.proofs.Common.{◌∙◌, subst}
use Rattle.step_threads.proofs.Prelude
use Prelude.{Act, as_word, atomic_step_is_event, AtomicStep, BeginsAct, by_word, came}
use Prelude.{cell_of_name, CellName, CellWord, Compare, Compared, compared_in, comparing}
use Prelude.{cond-false, cond-true, done_on, Event, event_of, first, FitsThread, Frame, frame_by}
use Prelude.{frame_settled, frame_view, ghost_after, ghost_after_step, ghost_by, GhostState, hand}
use Prelude.{Handle, Hands, HasCell, HasGoneOn, HasStepped, Idle, is_expected, is_full, is_there}
use Prelude.{IsCellWord, IsSeenBy, Load, Look, model_state, OnCell, pending, pending_call_by}
use Prelude.{PendingCall, PendingCallFits, Quiet, Rest, rest, row_in, Said, said_by_row}
use Prelude.{same_value, Saw, seen, silent, Site, slot_value, Step, step_at, step_of_act, Stepped}
use Prelude.{stepped, TableInvariant, Task, task_at, Thread, Waited, waits, waits_on, went, within}
use Rattle.step_table.specs.Contents.{is_spent}
use Rattle.step_threads.specs.Frames.{CanAct}
use Rattle.step_threads.specs.Steps.{step_of_compare, step_of_look}
use Rattle.step_threads.proofs.CompareFits.{cell_of_compare}
use Rattle.step_threads.proofs.CompareSteps.{answers, compared_frame, expected_told}
use Rattle.step_threads.proofs.Compares.{may_compare}
use Rattle.step_threads.proofs.LookFits.{fits_pending_call, stocks_as}
use Rattle.step_threads.proofs.Looks.{same_looked}
use Rattle.step_threads.proofs.Named.{refusal_none, told_as, walked_by}
use Rattle.step_threads.proofs.Steps.{at_act, on_slot, says_on, stepped_as, waits_act}
use Rattle.step_threads.proofs.Threads.{cell_here, cells_on, own_pending}
use Rattle.step_threads.proofs.holding.Ends.{ends_gone}

-- the thread as it is after its act
abbrev pub Rested : Thread → Frame → Thread
Rested t c = record { frame = c; stock = t.stock; pending_call = t.pending_call }

module _ (d : ℕ) (t : Thread) (v : GhostState) (begins : BeginsAct d t v) where
  abbrev fits : FitsThread d t v
  fits = begins.fits

  abbrev rests : t.pending_call ≡ Rest
  rests = begins.rest

  abbrev none : t.frame.endings.list ≡ []
  none = begins.none

  abbrev lt : t.frame.at < length t.frame.tasks.items
  lt = begins.within

  abbrev number : ℕ
  number = (task_at t.frame).statement

  pub is_idle : pending v d ≡ Idle
  is_idle = subst (λ (h : PendingCall). PendingCallFits d h t.frame.registers.slots.items (task_at t.frame).act v) rests fits.pending_call

  pub can_act : CanAct d t.frame v
  can_act =
      record {
        seat = fits.seat;
        idle = is_idle;
        holds = fits.holds;
        within = lt;
        ready = fits.ready;
        still = fits.still;
        ended = none;
        cell = cell_here t.frame v lt fits.cells;
      }

  -- it fits a table in which no block moved, once it went on
  pub went_on : (w : GhostState) (c : Frame) → (model_state w).stores ≡ (model_state v).stores → w.extent ≡ v.extent → pending w d ≡ Idle
      → HasGoneOn d t.frame c w → FitsThread d (Rested t c) w
  went_on w c stores same idle on =
      subst (λ (h : PendingCall). FitsThread d (record { frame = c; stock = t.stock; pending_call = h }) w) (sym rests)
      (record {
        seat = subst (λ e. d < e.actors) (sym same) fits.seat;
        holds = on.holds;
        within = on.within;
        ready = on.ready;
        still = on.still;
        pending_call = idle;
        next = tt;
        stocks = stocks_as d t v Rest Rest fits rests (λ b. refl) (λ b. refl) w stores same;
        endings = ends_gone d t.frame c v w fits.endings none on.endings same;
        cells =
            cells_on d t.frame c w on (subst (λ e. All (λ (x : Task). HasCell e.shape x.act) t.frame.tasks.items) (sym same) fits.cells);
      })

  -- nothing was done to the table
  pub went_quiet : (c : Frame) → HasGoneOn d t.frame c v → FitsThread d (Rested t c) v
  went_quiet c on = went_on v c refl refl is_idle on

  -- nothing was done
  pub stays_here : (c : Frame) (w : GhostState) → c ≡ t.frame → w ≡ v → FitsThread d (Rested t c) w
  stays_here c w same is =
      subst (λ (u : GhostState). FitsThread d (Rested t c) u) (sym is) (subst (λ (y : Frame). FitsThread d (Rested t y) v) (sym same) fits)

  -- it has seen the cell that it is to load or to compare
  pub sees_cell : (x : CellWord) (c : Frame) (w : GhostState) → c ≡ t.frame → w ≡ v → IsCellWord x
      → IsSeenBy t.frame.registers.slots.items x (task_at t.frame).act
      → FitsThread d (record { frame = c; stock = t.stock; pending_call = Saw x }) w
  sees_cell x c w same is valid seen =
      subst (λ (u : GhostState). FitsThread d (record { frame = c; stock = t.stock; pending_call = Saw x }) u) (sym is)
      (subst (λ (y : Frame). FitsThread d (record { frame = y; stock = t.stock; pending_call = Saw x }) v) (sym same)
      (fits_pending_call d t v Rest (Saw x) fits rests (λ b. refl) (λ b. refl) (is_idle, valid) (lt, seen, none)))

  -- it fits after a look that was the whole of its act
  pub looked_on : (c : Site) (y : Option Compared) (x : CellWord) (c' : Frame) (w : GhostState) → TableInvariant v → w
      ≡ ghost_after_step v d (OnCell (Look c x y))
      → HasGoneOn d t.frame c' w → FitsThread d (Rested t c') w
  looked_on c y x c' w kept is on =
      let u = ghost_after_step v d (OnCell (Look c x y)) in
      subst (λ (z : GhostState). FitsThread d (Rested t c') z) (sym is)
      (went_on u c' (same_looked v d c x y) refl (own_pending v d (OnCell (Look c x y)) kept fits.seat) (subst (λ (z : GhostState). HasGoneOn d t.frame
      c' z) is on))

  -- the first look of a load
  module _ (c : CellName) (x : CellWord) (there : is_there t.frame.registers.slots.items c ≡ true)
      (shows : x ≡ seen v (cell_of_name (model_state v) t.frame.registers.slots.items c)) where
    pub load_looks : first v d (frame_view t.frame) number (rest t.frame) (Load c)
        ≡ step_of_look v d (frame_view t.frame) number (rest t.frame) (Load c)
        (cell_of_name (model_state v) t.frame.registers.slots.items c) None x
    load_looks =
        let w = frame_view t.frame in
        let at = cell_of_name (model_state v) w.slots c in
        cond-true (is_there w.slots c) (step_of_look v d w number (rest t.frame) (Load c) at None (seen v at))
        (step_of_act v d w number (rest t.frame) (Load c) None Rest) there
        ∙ ap (step_of_look v d w number (rest t.frame) (Load c) at None) (sym shows)

    pub load_waits : waits_on v (frame_view t.frame) (Load c) ≡ is_spent x
    load_waits =
        let at = cell_of_name (model_state v) t.frame.registers.slots.items c in
        ap (λ (b : Bool). b && is_spent (seen v at)) there ∙ ap is_spent (sym shows)

  pub load_went : (c : CellName) → is_there t.frame.registers.slots.items c ≡ true
      → frame_settled (set t.frame.registers.slots.items (hand t.frame.registers.slots.items)
      (came (model_state v) t.frame.registers.slots.items c)) true t.frame.endings.list (rest t.frame)
      ≡ went (model_state v) d (frame_view t.frame) number (rest t.frame) (Load c)
  load_went c there =
      let l = t.frame.registers.slots.items in
      sym (ap (walked_by (frame_view t.frame) (rest t.frame))
      (cond-true {A = Hands} (is_there l c) (set l (hand l) (came (model_state v) l c), true) (l, t.frame.taken) there))

  pub load_says : (c : CellName) → is_there t.frame.registers.slots.items c ≡ true
      → silent number ≡ said_by_row number (row_in (by_word v) (model_state v) d t.frame.registers.slots.items t.frame.taken (Load c))
  load_says c there = sym (ap (told_as number) (refusal_none t.frame.registers.slots.items c there))

  -- the first look of a compare
  module _ (k : ℕ) (c : CellName) (weak : Bool) (act : (task_at t.frame).act ≡ Compare k c weak) (x : CellWord)
      (shows : x ≡ seen v (cell_of_name (model_state v) t.frame.registers.slots.items c)) where
    abbrev place : Site
    place = cell_of_name (model_state v) t.frame.registers.slots.items c

    abbrev wanted : Compared
    wanted = compared_in t.frame.registers.slots.items (comparing t.frame.registers.slots.items k weak)

    compares : first v d (frame_view t.frame) number (rest t.frame) (Compare k c weak)
        ≡ step_of_compare v d (frame_view t.frame) number (rest t.frame) (Compare k c weak) place wanted x
    compares = ap (step_of_compare v d (frame_view t.frame) number (rest t.frame) (Compare k c weak) place wanted) (sym shows)

    compare_waits : (b : Bool) → same_value x wanted.expected ≡ b → waits_on v (frame_view t.frame) (Compare k c weak) ≡ (not b && is_spent x)
    compare_waits b e = ap (λ (z : CellWord). not (same_value z wanted.expected) && is_spent z) (sym shows) ∙ ap (λ (q : Bool). not q && is_spent x) e

    -- a cell that is what is expected
    pub compare_sees : same_value x wanted.expected ≡ true
        → first v d (frame_view t.frame) number (rest t.frame) (Compare k c weak) ≡ within (frame_view t.frame) number None (Saw x)
    compare_sees e =
        compares ∙ cond-true (same_value x wanted.expected) (within (frame_view t.frame) number None (Saw x))
        (step_of_look v d (frame_view t.frame) number (rest t.frame) (Compare k c weak) place (Some wanted) x) e

    pub compare_goes : same_value x wanted.expected ≡ true → waits_on v (frame_view t.frame) (Compare k c weak) ≡ false
    compare_goes e = compare_waits true e

    -- one that differs
    module _ (differs : same_value x wanted.expected ≡ false) where
      pub differ_looks : first v d (frame_view t.frame) number (rest t.frame) (Compare k c weak)
          ≡ step_of_look v d (frame_view t.frame) number (rest t.frame) (Compare k c weak) place (Some wanted) x
      differ_looks =
          compares ∙ cond-false (same_value x wanted.expected) (within (frame_view t.frame) number None (Saw x))
          (step_of_look v d (frame_view t.frame) number (rest t.frame) (Compare k c weak) place (Some wanted) x) differs

      pub differ_waits : waits_on v (frame_view t.frame) (Compare k c weak) ≡ is_spent x
      differ_waits = compare_waits false differs

      not_expected : TableInvariant v → is_expected (model_state v) t.frame.registers.slots.items k c ≡ false
      not_expected kept =
          let slots = t.frame.registers.slots.items in
          let may = may_compare t.frame k c weak lt fits.ready act fits.still in
          sym (expected_told d slots v k c kept fits.seat fits.holds (cell_of_compare d t v k c weak x fits act lt) may.0 may.2)
          ∙ ap (λ (y : CellWord). same_value y (as_word (slot_value slots k))) (sym shows) ∙ differs

      pub differ_says : TableInvariant v → answers number false
          ≡ said_by_row number
          (row_in (by_word v) (model_state v) d t.frame.registers.slots.items t.frame.taken (Compare k c weak))
      differ_says kept = ap (answers number) (sym (not_expected kept))

      pub differ_went : TableInvariant v → compared_frame t v c false ≡ went (model_state v) d (frame_view t.frame) number (rest t.frame) (Compare k c weak)
      differ_went kept = ap (compared_frame t v c) (sym (not_expected kept))

  module _ (a : Act) (act : (task_at t.frame).act ≡ a) where
    abbrev said : Said
    said = said_by_row number (row_in (by_word v) (model_state v) d t.frame.registers.slots.items t.frame.taken a)

    -- a step of the act
    pub steps_as : (s : Step) (r : Stepped) (t' : Thread) (v' : GhostState) → first v d (frame_view t.frame) number (rest t.frame) a ≡ s
        → waits_on v (frame_view t.frame) a ≡ false → r ≡ stepped v (Some s) → v' ≡ ghost_after v d s.atomic_step
        → frame_view t'.frame ≡ s.frame_view → t'.pending_call ≡ s.pending_call
        → HasStepped d t v r t' v'
    steps_as s r t' v' is goes =
        stepped_as d t v s r t' v' (waits_act t v a rests none lt act ∙ goes)
        (at_act d t v a rests none lt act ∙ ap (λ (y : Step). Some y) is)

    -- the whole of the act, which does this
    pub acts_as : (x : Option AtomicStep) (h : PendingCall) (r : Stepped) (t' : Thread) (v' : GhostState)
        → first v d (frame_view t.frame) number (rest t.frame) a ≡ step_of_act v d (frame_view t.frame) number (rest t.frame) a x h
        → waits_on v (frame_view t.frame) a ≡ false → r ≡ cond (atomic_step_is_event v x) (Event said) (Quiet said) → v' ≡ ghost_after v d x
        → frame_view t'.frame ≡ went (model_state v) d (frame_view t.frame) number (rest t.frame) a → t'.pending_call ≡ h → HasStepped d t v r t' v'
    acts_as x h r t' v' = steps_as (step_of_act v d (frame_view t.frame) number (rest t.frame) a x h) r t' v'

    -- the whole of an act on what a slot holds, by an atomic step that is an event
    pub acts_on : (f : Handle → AtomicStep) (o : Option Handle) (b : Bool) (y : Said) (r : Stepped) (t' : Thread) (v' : GhostState)
        → first v d (frame_view t.frame) number (rest t.frame) a ≡ step_of_act v d (frame_view t.frame) number (rest t.frame) a (option_map f o) Rest
        → waits_on v (frame_view t.frame) a ≡ false → ((p : Handle) → is_some (event_of (model_state v) (f p)) ≡ true)
        → r ≡ cond b (Event y) (Quiet y) → b ≡ is_full o → y ≡ said → v' ≡ done_on f v d o
        → frame_view t'.frame ≡ went (model_state v) d (frame_view t.frame) number (rest t.frame) a → t'.pending_call ≡ Rest → HasStepped d t v r t' v'
    acts_on f o b y r t' v' is goes event answer full says ghost_state =
        acts_as (option_map f o) Rest r t' v' is goes (says_on f v o r y said b event answer full says) (ghost_state ∙ on_slot f v d o)

    -- it waits
    pub waits_here : (s : Step) (t' : Thread) (v' : GhostState) → first v d (frame_view t.frame) number (rest t.frame) a ≡ s
        → waits_on v (frame_view t.frame) a ≡ true → v' ≡ ghost_after v d s.atomic_step → frame_view t'.frame ≡ s.frame_view → t'.pending_call ≡ s.pending_call
        → HasStepped d t v Waited t' v'
    waits_here s t' v' is waiting ghost_state walked pending_call =
        let at = at_act d t v a rests none lt act ∙ ap (λ (y : Step). Some y) is in
        let goes = waits_act t v a rests none lt act ∙ waiting in
        record {
          answer = sym (cond-true (waits v t.pending_call (frame_view t.frame)) Waited (stepped v (step_at v d t.pending_call (frame_view t.frame))) goes);
          ghost_state = subst (λ (o : Option Step). v' ≡ ghost_by v d o) (sym at) ghost_state;
          place = subst (λ (o : Option Step). frame_view t'.frame ≡ frame_by (frame_view t.frame) o) (sym at) walked;
          pending_call = subst (λ (o : Option Step). t'.pending_call ≡ pending_call_by t.pending_call o) (sym at) pending_call;
        }

    -- it looks at a cell that shows this
    module _ (c : Site) (y : Option Compared) (x : CellWord)
        (is : first v d (frame_view t.frame) number (rest t.frame) a ≡ step_of_look v d (frame_view t.frame) number (rest t.frame) a c y x)
        (waiting : waits_on v (frame_view t.frame) a ≡ is_spent x) where
      spent_not : is_some x.owned ≡ false → is_spent x ≡ false
      spent_not e = ap (λ (b : Bool). b && (x.taken == 256)) e

      abbrev looked : Step
      looked = step_of_act v d (frame_view t.frame) number (rest t.frame) a (Some (OnCell (Look c x y))) Rest

      -- a value without an object, which is the whole of the act
      pub looks_bare : (r : Stepped) (t' : Thread) (v' : GhostState) → is_some x.owned ≡ false → r ≡ Event said
          → v' ≡ ghost_after_step v d (OnCell (Look c x y))
          → frame_view t'.frame ≡ went (model_state v) d (frame_view t.frame) number (rest t.frame) a → t'.pending_call ≡ Rest → HasStepped d t v r t' v'
      looks_bare r t' v' bare =
          acts_as (Some (OnCell (Look c x y))) Rest r t' v'
          (is ∙ cond-false (is_spent x) (within (frame_view t.frame) number None Rest)
          (cond (is_some x.owned) (within (frame_view t.frame) number None (Saw x)) looked) (spent_not bare)
          ∙ cond-false (is_some x.owned) (within (frame_view t.frame) number None (Saw x)) looked bare)
          (waiting ∙ spent_not bare)

      -- one that has an object is tried next
      pub looks_full : (r : Stepped) (t' : Thread) (v' : GhostState) → is_some x.owned ≡ true → (x.taken == 256) ≡ false → r ≡ Quiet (silent number)
          → v' ≡ v → frame_view t'.frame ≡ frame_view t.frame → t'.pending_call ≡ Saw x → HasStepped d t v r t' v'
      looks_full r t' v' full few =
          let left : is_spent x ≡ false = ap (λ (b : Bool). b && (x.taken == 256)) full ∙ few in
          steps_as (within (frame_view t.frame) number None (Saw x)) r t' v'
          (is ∙ cond-false (is_spent x) (within (frame_view t.frame) number None Rest)
          (cond (is_some x.owned) (within (frame_view t.frame) number None (Saw x)) looked) left
          ∙ cond-true (is_some x.owned) (within (frame_view t.frame) number None (Saw x)) looked full)
          (waiting ∙ left)

      -- and where all of its funds were taken, it waits
      pub looks_spent : (t' : Thread) (v' : GhostState) → is_some x.owned ≡ true → (x.taken == 256) ≡ true → v' ≡ v → frame_view t'.frame ≡ frame_view t.frame
          → t'.pending_call ≡ Rest → HasStepped d t v Waited t' v'
      looks_spent t' v' full all =
          let spent : is_spent x ≡ true = ap (λ (b : Bool). b && (x.taken == 256)) full ∙ all in
          waits_here (within (frame_view t.frame) number None Rest) t' v'
          (is ∙ cond-true (is_spent x) (within (frame_view t.frame) number None Rest)
          (cond (is_some x.owned) (within (frame_view t.frame) number None (Saw x)) looked) spent)
          (waiting ∙ spent)
