-- The first step of a load or a compare, and its event.
use Rattle.std.proofs.Common.{◌≡◌, ℕ, ◌<◌, Bool, true, false, cond, not, ◌&&◌, List, [], ◌∷◌, set}
use Rattle.std.proofs.Common.{is_some, Some, None, Option, sym, refl, ap, ◌∙◌, subst}
use Rattle.step_core.proofs.Prelude
use Prelude.{abstraction, AbstractState, Act, and_parts, as_word, AtomicStep, cell_of_name}
use Prelude.{cell_open, CellName, CellWord, Compare, compare_of, Compared, compared_in, comparing}
use Prelude.{cond_both, Ending, Event, event_added, event_of, false≢true, first, Found, frame_of}
use Prelude.{goes_in, hand, HasBegun, HasCell, HoldsBag, idle, is_acting, is_of, is_offered}
use Prelude.{is_spent, is_there, IsInShape, IsOpenTo, IsStill, kind_at, kind_in_state, Load}
use Prelude.{load_of, Look, look_tells, model_state, Nothing, OnCell, opening, pending_call_of}
use Prelude.{PendingCall, Rest, same_value, Saw, seen, seen_found, Site, slot_value, Step}
use Prelude.{step_of_act, step_of_look, TableInvariant, Task, waits, waits_at, waits_on, went}
use Prelude.{within, world_state_by, WorldState}
use Rattle.step_table.proofs.contained.Telling.{unlike_tells}
use Rattle.step_core.proofs.Entries.{loads}
use Rattle.step_core.proofs.turning.Ending.{same_frames, abstraction_as}
use Rattle.step_core.proofs.turning.Saying.{Acts}

-- the thread's desk is there, has what its slots tell, and this is its next act
pub record CanLook (d : ℕ) (u : WorldState) (a : Act) : Type 0 where
  pub seat : d < u.ghost_state.extent.actors
  pub kept : TableInvariant u.ghost_state
  pub cell : HasCell u.ghost_state.extent.shape a
  pub holds : HoldsBag d (frame_of (abstraction u) d).slots u.ghost_state
  pub still : idle a (frame_of (abstraction u) d).slots (frame_of (abstraction u) d).taken ≡ false

pub can_look : (d : ℕ) (u : WorldState) (t : Task) (ts : List Task) → (frame_of (abstraction u) d).todo ≡ t ∷ ts → HasBegun d u → CanLook d u t.act
can_look d u t ts todo begun =
    record {
      seat = begun.seat;
      kept = begun.kept;
      cell = subst (λ (l : List Task). IsInShape u.ghost_state.extent.shape l) todo begun.cell;
      holds = begun.holds;
      still = subst (λ (l : List Task). IsStill (frame_of (abstraction u) d) l) todo begun.still;
    }

-- the next act of a thread at rest doesn't wait
pub awake_on : (d : ℕ) (u : WorldState) (t : Task) (ts : List Task) → pending_call_of u d ≡ Rest → (frame_of (abstraction u) d).endings ≡ []
    → (frame_of (abstraction u) d).todo ≡ t ∷ ts → waits u.ghost_state (pending_call_of u d) (frame_of (abstraction u) d) ≡ false
    → waits_on u.ghost_state (frame_of (abstraction u) d) t.act ≡ false
awake_on d u t ts rest none todo awake =
    let w = frame_of (abstraction u) d in
    let v = u.ghost_state in
    sym (ap (λ (h : PendingCall). waits v h w) rest ∙ ap (λ (es : List Ending). waits_at v w es w.todo) none ∙ ap (waits_at v w []) todo) ∙ awake

-- the abstract state after a load, by whether the cell is there
abbrev load_abstraction : ℕ → WorldState → ℕ → List Task → CellName → Bool → AbstractState
load_abstraction d u k ts c is =
    let w = frame_of (abstraction u) d in
    let v = u.ghost_state in
    record {
      extent = v.extent;
      history = cond is (loads (opening v.extent) d w.slots v.history c) v.history;
      frame_views = set u.frame_views d (went (model_state v) d w k ts (Load c));
    }

-- the event of a load
pub load_so : (d : ℕ) (u : WorldState) (k : ℕ) (ts : List Task) (c : CellName) (y : AtomicStep) (h : PendingCall) → is_there (frame_of (abstraction u) d).slots
    c ≡ true
    → ◌≡◌ {A = Option (Event Nothing)} (event_of (model_state u.ghost_state) y)
    (Some (load_of (model_state u.ghost_state) (cell_of_name (model_state u.ghost_state) (frame_of (abstraction u) d).slots c)))
    → Acts d u k ts (Load c) (step_of_act u.ghost_state d (frame_of (abstraction u) d) k ts (Load c) (Some y) h)
load_so d u k ts c y h there e =
    let w = frame_of (abstraction u) d in
    let v = u.ghost_state in (
      refl,
      ap (λ (o : Option (Event Nothing)). record {
        extent = v.extent;
        history = event_added d o v.history;
        frame_views = set u.frame_views d (went (model_state v) d w k ts (Load c));
      }) e ∙ ap (load_abstraction d u k ts c) (sym there),
    )

-- a load of a member of no object
unloaded : (d : ℕ) (u : WorldState) (k : ℕ) (ts : List Task) (c : CellName) → is_there (frame_of (abstraction u) d).slots c ≡ false
    → Acts d u k ts (Load c) (step_of_act u.ghost_state d (frame_of (abstraction u) d) k ts (Load c) None Rest)
unloaded d u k ts c out = (refl, ap (load_abstraction d u k ts c) (sym out))

-- the event of a compare
pub compare_so : (d : ℕ) (u : WorldState) (k : ℕ) (ts : List Task) (i : ℕ) (c : CellName) (weak : Bool) (y : AtomicStep) (h : PendingCall)
    → let slots = (frame_of (abstraction u) d).slots in
    ◌≡◌ {A = Option (Event Nothing)} (event_of (model_state u.ghost_state) y)
    (Some (compare_of (model_state u.ghost_state) (cell_of_name (model_state u.ghost_state) slots c) (slot_value slots i) (slot_value slots (hand slots)) weak))
    → Acts d u k ts (Compare i c weak) (step_of_act u.ghost_state d (frame_of (abstraction u) d) k ts (Compare i c weak) (Some y) h)
compare_so d u k ts i c weak y h e =
    let w = frame_of (abstraction u) d in
    let v = u.ghost_state in
    let s = model_state v in
    let frame_views = set u.frame_views d (went s d w k ts (Compare i c weak)) in (
      refl,
      ap (λ (o : Option (Event Nothing)). record { extent = v.extent; history = event_added d o v.history; frame_views = frame_views }) e,
    )

not_false : (b : Bool) → not b ≡ false → b ≡ true
not_false true e = refl
not_false false e = absurd (false≢true (sym e))

-- the cell of a compare is there, and its values may go in
pub record MayCompare (d : ℕ) (u : WorldState) (i : ℕ) (c : CellName) : Type 0 where
  pub there : is_there (frame_of (abstraction u) d).slots c ≡ true
  pub expected : let v = u.ghost_state in let slots = (frame_of (abstraction u) d).slots in
      is_of (kind_in_state (model_state v) (cell_of_name (model_state v) slots c)) (slot_value slots i) ≡ true
  pub new : let v = u.ghost_state in let slots = (frame_of (abstraction u) d).slots in
      is_of (kind_in_state (model_state v) (cell_of_name (model_state v) slots c)) (slot_value slots (hand slots)) ≡ true

pub may_compare : (d : ℕ) (u : WorldState) (i : ℕ) (c : CellName) (weak : Bool) → CanLook d u (Compare i c weak) → MayCompare d u i c
may_compare d u i c weak can =
    let w = frame_of (abstraction u) d in
    let slots = w.slots in
    let n = not_false _ can.still in
    let p = and_parts (is_offered slots w.taken c) (is_of (kind_at c) (slot_value slots i)) n in
    let q = and_parts (w.taken && is_there slots c) (is_of (kind_at c) (slot_value slots (hand slots))) p.0 in
    record {
      there = (and_parts w.taken (is_there slots c) q.0).1;
      expected = goes_in u.ghost_state slots c (slot_value slots i) can.cell p.1;
      new = goes_in u.ghost_state slots c (slot_value slots (hand slots)) can.cell q.1;
    }

-- the cell that it looks at
pub cell_now : (d : ℕ) (u : WorldState) (c : CellName) (a : Act) → CanLook d u a → HasCell u.ghost_state.extent.shape (Load c)
    → is_there (frame_of (abstraction u) d).slots c ≡ true → IsOpenTo u.ghost_state d
    (cell_of_name (model_state u.ghost_state) (frame_of (abstraction u) d).slots c)
cell_now d u c a can is there = cell_open u.ghost_state d (frame_of (abstraction u) d).slots c is can.holds there

pub found_now : (d : ℕ) (u : WorldState) (c : CellName) (a : Act) → CanLook d u a → HasCell u.ghost_state.extent.shape (Load c)
    → is_there (frame_of (abstraction u) d).slots c ≡ true
    → let x = cell_of_name (model_state u.ghost_state) (frame_of (abstraction u) d).slots c in Found u.ghost_state x (seen u.ghost_state x)
found_now d u c a can is there =
    seen_found u.ghost_state d (cell_of_name (model_state u.ghost_state) (frame_of (abstraction u) d).slots c) can.kept can.seat (cell_now d u c a can is there)

-- what a look does: all funds were taken, there is an object, or there is none
sees_so : (d : ℕ) (u : WorldState) (k : ℕ) (ts : List Task) (a : Act) (c : Site) (y : Option Compared) (x : CellWord) → is_spent x ≡ false
    → let w = frame_of (abstraction u) d in
    Acts d u k ts a (step_of_act u.ghost_state d w k ts a (Some (OnCell (Look c x y))) Rest)
    → is_acting (step_of_look u.ghost_state d w k ts a c y x).pending_call ≡ false → Acts d u k ts a (step_of_look u.ghost_state d w k ts a c y x)
sees_so d u k ts a c y x spent so =
    let w = frame_of (abstraction u) d in
    let look = step_of_act u.ghost_state d w k ts a (Some (OnCell (Look c x y))) Rest in
    cond_both (is_spent x) (within w k None Rest) (cond (is_some x.owned) (within w k None (Saw x)) look)
    (λ (s : Step). is_acting s.pending_call ≡ false → Acts d u k ts a s) (λ t q. absurd (false≢true (sym spent ∙ t)))
    (λ f. cond_both (is_some x.owned) (within w k None (Saw x)) look (λ (s : Step). is_acting s.pending_call ≡ false → Acts d u k ts a s)
    (λ t q. absurd (false≢true (sym q))) (λ f q. so))

sees_same : (d : ℕ) (u : WorldState) (k : ℕ) (ts : List Task) (a : Act) (c : Site) (y : Option Compared) (x : CellWord)
    → let s = step_of_look u.ghost_state d (frame_of (abstraction u) d) k ts a c y x in is_acting s.pending_call ≡ true → abstraction
    (world_state_by d u (Some s)) ≡ abstraction u
sees_same d u k ts a c y x =
    let w = frame_of (abstraction u) d in
    let look = step_of_act u.ghost_state d w k ts a (Some (OnCell (Look c x y))) Rest in
    cond_both (is_spent x) (within w k None Rest) (cond (is_some x.owned) (within w k None (Saw x)) look)
    (λ (s : Step). is_acting s.pending_call ≡ true → abstraction (world_state_by d u (Some s)) ≡ abstraction u) (λ t q. absurd (false≢true q))
    (λ f. cond_both (is_some x.owned) (within w k None (Saw x)) look
    (λ (s : Step). is_acting s.pending_call ≡ true → abstraction (world_state_by d u (Some s)) ≡ abstraction u)
    (λ t q. abstraction_as u _ _ _ _ refl (same_frames d u)) (λ f q. absurd (false≢true q)))

pub load_first : (d : ℕ) (u : WorldState) (k : ℕ) (ts : List Task) (c : CellName) → CanLook d u (Load c)
    → waits_on u.ghost_state (frame_of (abstraction u) d) (Load c) ≡ false
    → let x = first u.ghost_state d (frame_of (abstraction u) d) k ts (Load c) in is_acting x.pending_call ≡ false → Acts d u k ts (Load c) x
load_first d u k ts c can none =
    let v = u.ghost_state in
    let w = frame_of (abstraction u) d in
    let x = cell_of_name (model_state v) w.slots c in
    let is = is_there w.slots c in
    cond_both is (step_of_look v d w k ts (Load c) x None (seen v x)) (step_of_act v d w k ts (Load c) None Rest)
    (λ (s : Step). is_acting s.pending_call ≡ false → Acts d u k ts (Load c) s)
    (λ t. sees_so d u k ts (Load c) x None (seen v x) (sym (ap (λ (b : Bool). b && is_spent (seen v x)) t) ∙ none)
    (load_so d u k ts c (OnCell (Look x (seen v x) None)) Rest t (look_tells v x (seen v x) (found_now d u c (Load c) can can.cell t))))
    (λ f q. unloaded d u k ts c f)

pub load_same : (d : ℕ) (u : WorldState) (k : ℕ) (ts : List Task) (c : CellName)
    → let x = first u.ghost_state d (frame_of (abstraction u) d) k ts (Load c) in is_acting x.pending_call ≡ true → abstraction (world_state_by d u (Some x)) ≡
    abstraction u
load_same d u k ts c =
    let v = u.ghost_state in
    let w = frame_of (abstraction u) d in
    let x = cell_of_name (model_state v) w.slots c in
    cond_both (is_there w.slots c) (step_of_look v d w k ts (Load c) x None (seen v x)) (step_of_act v d w k ts (Load c) None Rest)
    (λ (s : Step). is_acting s.pending_call ≡ true → abstraction (world_state_by d u (Some s)) ≡ abstraction u)
    (λ t. sees_same d u k ts (Load c) x None (seen v x)) (λ f q. absurd (false≢true q))

-- a compare that finds no object, and so differs
pub unlike_so : (d : ℕ) (u : WorldState) (k : ℕ) (ts : List Task) (i : ℕ) (c : CellName) (weak : Bool) → CanLook d u (Compare i c weak)
    → let v = u.ghost_state in let w = frame_of (abstraction u) d in let x = cell_of_name (model_state v) w.slots c in
    same_value (seen v x) (as_word (slot_value w.slots i)) ≡ false
    → Acts d u k ts (Compare i c weak)
    (step_of_act v d w k ts (Compare i c weak) (Some (OnCell (Look x (seen v x) (Some (compared_in w.slots (comparing w.slots i weak)))))) Rest)
unlike_so d u k ts i c weak can differs =
    let v = u.ghost_state in
    let w = frame_of (abstraction u) d in
    let x = cell_of_name (model_state v) w.slots c in
    let y = comparing w.slots i weak in
    let may = may_compare d u i c weak can in
    compare_so d u k ts i c weak (OnCell (Look x (seen v x) (Some (compared_in w.slots y)))) Rest
    (unlike_tells v x (seen v x) (found_now d u c (Compare i c weak) can can.cell may.there) d w.slots y can.kept can.holds may.expected may.new differs)

pub compare_first : (d : ℕ) (u : WorldState) (k : ℕ) (ts : List Task) (i : ℕ) (c : CellName) (weak : Bool) → CanLook d u (Compare i c weak)
    → waits_on u.ghost_state (frame_of (abstraction u) d) (Compare i c weak) ≡ false
    → let x = first u.ghost_state d (frame_of (abstraction u) d) k ts (Compare i c weak) in is_acting x.pending_call ≡ false → Acts d u k ts (Compare i c weak)
    x
compare_first d u k ts i c weak can none =
    let v = u.ghost_state in
    let w = frame_of (abstraction u) d in
    let x = cell_of_name (model_state v) w.slots c in
    let a = Compare i c weak in
    let q = compared_in w.slots (comparing w.slots i weak) in
    let same = same_value (seen v x) (as_word (slot_value w.slots i)) in
    cond_both same (within w k None (Saw (seen v x))) (step_of_look v d w k ts a x (Some q) (seen v x))
    (λ (s : Step). is_acting s.pending_call ≡ false → Acts d u k ts a s) (λ t z. absurd (false≢true (sym z)))
    (λ f. sees_so d u k ts a x (Some q) (seen v x) (sym (ap (λ (b : Bool). not b && is_spent (seen v x)) f) ∙ none)
    (unlike_so d u k ts i c weak can f))

pub compare_same : (d : ℕ) (u : WorldState) (k : ℕ) (ts : List Task) (i : ℕ) (c : CellName) (weak : Bool)
    → let x = first u.ghost_state d (frame_of (abstraction u) d) k ts (Compare i c weak) in is_acting x.pending_call ≡ true → abstraction
    (world_state_by d u (Some x)) ≡ abstraction u
compare_same d u k ts i c weak =
    let v = u.ghost_state in
    let w = frame_of (abstraction u) d in
    let x = cell_of_name (model_state v) w.slots c in
    let a = Compare i c weak in
    let q = compared_in w.slots (comparing w.slots i weak) in
    cond_both (same_value (seen v x) (as_word (slot_value w.slots i))) (within w k None (Saw (seen v x))) (step_of_look v d w k ts a x (Some q) (seen v x))
    (λ (s : Step). is_acting s.pending_call ≡ true → abstraction (world_state_by d u (Some s)) ≡ abstraction u)
    (λ t z. abstraction_as u _ _ _ _ refl (same_frames d u))
    (λ f. sees_same d u k ts a x (Some q) (seen v x))
