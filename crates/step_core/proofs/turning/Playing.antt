-- An act, and what it says.
use Rattle.std.proofs.Common.{◌≡◌, ℕ, ◌<◌, true, false, ◌≢◌, List, [], ◌∷◌, length, set, Some}
use Rattle.std.proofs.Common.{None, Option, sym, refl, ap, ◌∙◌, subst}
use Rattle.step_core.proofs.Prelude
use Prelude.{abstraction, at_rest, begun, Brought, Clearing, cond-true, CountsAll, Ending, ends_on}
use Prelude.{false≢true, first, frame_of, Giving, hand, has_rest, HasBegun, is_acting, is_clearing}
use Prelude.{is_ending, is_full, is_refilling, is_returning, IsLegal, Leave, Locking, Making}
use Prelude.{Matched, next, next_of, opening, pending_call_of, PendingCall, Plays, Refill, Rest}
use Prelude.{rest_of, rested, returned, Returning, Saw, slot_pointer, state_in, Step, step_at}
use Prelude.{step_of, Stepped, stepped, Steps, TableInvariant, Task, Turned, turned_by, TurnIs}
use Prelude.{Waited, waits, world_state_by, WorldState}
use Rattle.step_core.proofs.turning.Ending.{pending_call_after, pending_calls_after, rested_none}
use Rattle.step_core.proofs.turning.Ending.{same_frames, abstraction_as}
use Rattle.step_core.proofs.turning.Resting.{carried, none_left}
use Rattle.step_core.proofs.turning.Firsts.{acts_so, first_same}
use Rattle.step_core.proofs.turning.Saying.{LegalBy, does_so, plays_as, plays_next}
use Rattle.step_core.proofs.turning.Looking.{awake_on, can_look}
use Rattle.step_core.proofs.turning.Telling.{awake, tells_rest}

-- a thread at its end does nothing
plays_none : (d : ℕ) (u : WorldState) (r : Stepped) → (frame_of (abstraction u) d).endings ≡ [] → (frame_of (abstraction u) d).todo ≡ [] → pending_call_of u d ≡
    Rest
    → step_of d u ≡ None → r ≡ stepped u.ghost_state (step_of d u)
    → d < length u.pending_calls → Plays d u (turned_by r) (world_state_by d u (step_of d u))
plays_none d u r none todo rest is answer lt =
    let w = frame_of (abstraction u) d in
    let h = pending_call_after d u None lt ∙ rest in
    let c = abstraction u in
    let n : next w ≡ None = ap (λ (es : List Ending). next_of w.slots es w.todo) none ∙ ap (next_of w.slots []) todo in
    let same : abstraction (world_state_by d u None) ≡ abstraction u = abstraction_as u _ _ _ _ refl (same_frames d u) in
    subst (λ (o : Option Step). r ≡ stepped u.ghost_state o → Plays d u (turned_by r) (world_state_by d u o)) (sym is)
    (λ e. record {
      turn = subst (λ (q : Turned). TurnIs (CountsAll d u (state_in c)) d c q (rested d (abstraction (world_state_by d u None)))) (sym (ap turned_by e))
          (n, ap (rested d) same ∙ rested_none c d none);
      done = ap is_acting h;
      pending_calls = pending_calls_after d u None lt;
    }) answer

pub begun_step : (d : ℕ) (u : WorldState) (ts : List Task) → pending_call_of u d ≡ Rest → (frame_of (abstraction u) d).endings ≡ [] →
    (frame_of (abstraction u) d).todo ≡ ts
    → step_of d u ≡ begun u.ghost_state d (frame_of (abstraction u) d) ts
begun_step d u ts rest none todo =
    let w = frame_of (abstraction u) d in
    ap (λ (h : PendingCall). step_at u.ghost_state d h w) rest ∙ ap (λ (l : List Ending). at_rest u.ghost_state d w l) none
    ∙ ap (λ (l : List Task). begun u.ghost_state d w l) todo

-- an act that is no make, or is refused
plays_first : (d : ℕ) (u : WorldState) (r : Stepped) (ts : List Task) → pending_call_of u d ≡ Rest → (frame_of (abstraction u) d).endings ≡ []
    → (frame_of (abstraction u) d).todo ≡ ts → waits u.ghost_state (pending_call_of u d) (frame_of (abstraction u) d) ≡ false → r ≡ stepped u.ghost_state
    (step_of d u)
    → HasBegun d u → LegalBy d u (step_of d u) → is_acting (pending_call_of (world_state_by d u (step_of d u)) d) ≡ false
    → Plays d u (turned_by r) (world_state_by d u (step_of d u))
plays_first d u r [] rest none todo awake answer begun legal over = plays_none d u r none todo rest (begun_step d u [] rest none todo) answer begun.within
plays_first d u r (t ∷ ts) rest none todo awake answer now legal over =
    let x = first u.ghost_state d (frame_of (abstraction u) d) t.statement ts t.act in
    let is = begun_step d u (t ∷ ts) rest none todo in
    let h : pending_call_of (world_state_by d u (step_of d u)) d ≡ x.pending_call =
    ap (λ (o : Option Step). pending_call_of (world_state_by d u o) d) is ∙ pending_call_after d u (Some x) now.within in
    let n : is_acting x.pending_call ≡ false = ap is_acting (sym h) ∙ over in
    let can = can_look d u t ts todo now in
    let q = awake_on d u t ts rest none todo awake in
    plays_as d u t ts x r none todo is answer (acts_so d u t.statement ts t.act can q n) (tells_rest d u t.act now rest) n now.within now.frame_views
    legal

-- an act that has just begun
begun_same : (d : ℕ) (u : WorldState) (ts : List Task) → pending_call_of u d ≡ Rest → (frame_of (abstraction u) d).endings ≡ [] →
    (frame_of (abstraction u) d).todo ≡ ts
    → d < length u.pending_calls → is_acting (pending_call_of (world_state_by d u (step_of d u)) d) ≡ true → abstraction (world_state_by d u (step_of d u)) ≡
    abstraction u
begun_same d u [] rest none todo lt is =
    absurd (false≢true (sym (ap is_acting (ap (λ (o : Option Step). pending_call_of (world_state_by d u o) d) (begun_step d u [] rest none todo)
    ∙ pending_call_after d u None lt ∙ rest)) ∙ is))
begun_same d u (t ∷ ts) rest none todo lt is =
    let x = first u.ghost_state d (frame_of (abstraction u) d) t.statement ts t.act in
    let e = begun_step d u (t ∷ ts) rest none todo in
    let h : pending_call_of (world_state_by d u (step_of d u)) d ≡ x.pending_call = ap (λ (o : Option Step). pending_call_of (world_state_by d u o) d) e ∙
    pending_call_after d u (Some x) lt in
    ap (λ (o : Option Step). abstraction (world_state_by d u o)) e ∙ first_same d u t.statement ts t.act (ap is_acting (sym h) ∙ is)

-- a thread that has begun nothing
resting : (h : PendingCall) → is_acting h ≡ false → is_returning h ≡ false → is_refilling h ≡ false → is_clearing h ≡ false → h ≡ Rest
resting Rest m n r c = refl
resting (Making b i f) m n r c = absurd (false≢true (sym m))
resting (Locking word) m n r c = absurd (false≢true (sym m))
resting (Giving i kind x) m n r c = absurd (false≢true (sym m))
resting Brought m n r c = absurd (false≢true (sym m))
resting (Saw wd) m n r c = absurd (false≢true (sym m))
resting (Matched wd) m n r c = absurd (false≢true (sym m))
resting (Refill stage cell wd line) m n r c = absurd (false≢true (sym r))
resting (Returning kind b funds k) m n r c = absurd (false≢true (sym n))
resting Clearing m n r c = absurd (false≢true (sym c))

-- or has it once the funds are given back
pub over_returned : (h : PendingCall) → is_acting h ≡ false → returned h ≡ Rest
over_returned Rest m = refl
over_returned (Making b i f) m = absurd (false≢true (sym m))
over_returned (Locking word) m = absurd (false≢true (sym m))
over_returned (Giving i kind x) m = absurd (false≢true (sym m))
over_returned Brought m = absurd (false≢true (sym m))
over_returned (Saw wd) m = absurd (false≢true (sym m))
over_returned (Matched wd) m = absurd (false≢true (sym m))
over_returned (Refill stage cell wd line) m = refl
over_returned (Returning kind b funds k) m = refl
over_returned Clearing m = refl

-- what came out of a member is in hand, and leaves
pub carried_step : (d : ℕ) (u : WorldState) (e : Ending) (es : List Ending) → pending_call_of u d ≡ Rest → (frame_of (abstraction u) d).endings ≡ e ∷ es
    → let w = frame_of (abstraction u) d in is_full (slot_pointer w.slots (hand w.slots)) ≡ true
    → step_of d u ≡ Some (first u.ghost_state d w e.statement w.todo (Leave (hand w.slots)))
carried_step d u e es rest is full =
    let w = frame_of (abstraction u) d in
    let v = u.ghost_state in
    ap (λ (h : PendingCall). step_at v d h w) rest ∙ ap (λ (l : List Ending). at_rest v d w l) is
    ∙ ap (λ (x : Step). Some x)
    (cond-true (is_full (slot_pointer w.slots (hand w.slots))) (first v d w e.statement w.todo (Leave (hand w.slots))) (ends_on v w e es) full)

plays_carried : (d : ℕ) (u : WorldState) (r : Stepped) (e : Ending) (es : List Ending) → pending_call_of u d ≡ Rest → (frame_of (abstraction u) d).endings ≡ e
    ∷ es
    → let w = frame_of (abstraction u) d in is_full (slot_pointer w.slots (hand w.slots)) ≡ true → r ≡ stepped u.ghost_state (step_of d u) → HasBegun d u
    → LegalBy d u (step_of d u)
    → Plays d u (turned_by r) (world_state_by d u (step_of d u))
plays_carried d u r e es rest is full answer begun legal =
    let w = frame_of (abstraction u) d in
    let t : Task = record { statement = e.statement; act = Leave (hand w.slots) } in
    plays_next d u t w.todo (first u.ghost_state d w e.statement w.todo t.act) r (ap (λ (l : List Ending). next_of w.slots l w.todo) is)
    (ap (λ (l : List Ending). rest_of l w.todo) is) (carried_step d u e es rest is full) answer
    (refl, does_so d u.ghost_state _ _) (tells_rest d u t.act begun rest) refl begun.within begun.frame_views legal

-- a thread at rest, whose endings have gone on as far as they go by themselves
plays_rest : (d : ℕ) (u : WorldState) (r : Stepped) (es : List Ending) → pending_call_of u d ≡ Rest → (frame_of (abstraction u) d).endings ≡ es
    → is_ending u d ≡ false
    → waits u.ghost_state (pending_call_of u d) (frame_of (abstraction u) d) ≡ false → r ≡ stepped u.ghost_state (step_of d u) → HasBegun d u
    → LegalBy d u (step_of d u)
    → is_acting (pending_call_of (world_state_by d u (step_of d u)) d) ≡ false → Plays d u (turned_by r) (world_state_by d u (step_of d u))
plays_rest d u r [] rest is ended awake answer begun legal over =
    plays_first d u r (frame_of (abstraction u) d).todo rest is refl awake answer begun legal over
plays_rest d u r (e ∷ es) rest is ended awake answer begun legal over = plays_carried d u r e es rest is (carried d u e es ended is) answer begun legal

pub plays : (d : ℕ) (u v : WorldState) (r : Stepped) → is_acting (pending_call_of u d) ≡ false → has_rest u d ≡ false → HasBegun d u → Steps d u r v
    → r ≢ Waited → TableInvariant v.ghost_state → is_acting (pending_call_of v d) ≡ false → Plays d u (turned_by r) v
plays d u v r m e begun steps never kept over =
    let n = none_left d u e in
    let a = awake d u v r steps never in
    let legal : LegalBy d u (step_of d u) = subst (λ (w : WorldState). IsLegal (opening w.ghost_state.extent) w.ghost_state.history) steps.1 kept.stands.legal
    in
    subst (λ (w : WorldState). is_acting (pending_call_of w d) ≡ false → Plays d u (turned_by r) w) (sym steps.1)
    (plays_rest d u r (frame_of (abstraction u) d).endings (resting (pending_call_of u d) m n.0 n.1 n.2) refl n.3 a.0 a.1 begun legal) over

-- an act that has just begun, where no object ends
same_rest : (d : ℕ) (u : WorldState) (es : List Ending) → pending_call_of u d ≡ Rest → (frame_of (abstraction u) d).endings ≡ es → is_ending u d ≡ false
    → d < length u.pending_calls → is_acting (pending_call_of (world_state_by d u (step_of d u)) d) ≡ true → abstraction (world_state_by d u (step_of d u)) ≡
    abstraction u
same_rest d u [] rest is ended lt acts = begun_same d u (frame_of (abstraction u) d).todo rest is refl lt acts
same_rest d u (e ∷ es) rest is ended lt acts =
    let w = frame_of (abstraction u) d in
    let x = first u.ghost_state d w e.statement w.todo (Leave (hand w.slots)) in
    let s = carried_step d u e es rest is (carried d u e es ended is) in
    let h : pending_call_of (world_state_by d u (step_of d u)) d ≡ Rest = ap (λ (o : Option Step). pending_call_of (world_state_by d u o) d) s ∙
    pending_call_after d u (Some x) lt in
    absurd (false≢true (sym (ap is_acting h) ∙ acts))

pub begins_act : (d : ℕ) (u v : WorldState) (r : Stepped) → is_acting (pending_call_of u d) ≡ false → has_rest u d ≡ false → HasBegun d u
    → Steps d u r v
    → is_acting (pending_call_of v d) ≡ true → (abstraction v ≡ abstraction u) × (v.pending_calls ≡ set u.pending_calls d (pending_call_of v d))
begins_act d u v r m e begun steps some =
    let n = none_left d u e in
    subst (λ (w : WorldState). is_acting (pending_call_of w d) ≡ true → (abstraction w ≡ abstraction u) ×
    (w.pending_calls ≡ set u.pending_calls d (pending_call_of w d))) (sym steps.1)
    (λ t. (
      same_rest d u (frame_of (abstraction u) d).endings (resting (pending_call_of u d) m n.0 n.1 n.2) refl n.3 begun.within t,
      pending_calls_after d u (step_of d u) begun.within,
    )) some
