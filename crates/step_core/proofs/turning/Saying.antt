-- What a step of an act says, and the turn that it is.
use Rattle.std.proofs.Common.{◌≡◌, ℕ, ◌<◌, Bool, true, false, cond, List, [], ◌∷◌, length, set}
use Rattle.std.proofs.Common.{◌==◌, Some, None, Option, option_map, sym, refl, ap, ◌∙◌, subst}
use Rattle.step_core.proofs.Prelude
use Prelude.{abstraction, AbstractState, Act, Acted, ActsNow, Alias, Ask, asks}
use Prelude.{atomic_step_is_event, AtomicStep, begins, Clear, Compare, cond-false, cond_both}
use Prelude.{Count, CountsAll, Downgrade, Drop, Ending, Exchange, Expired, false≢true, Form}
use Prelude.{frame_after_act, frame_of, frame_settled, FrameView, FromThis, full_answer}
use Prelude.{ghost_after, ghost_by, GhostState, give, Giving, Handle, History, holding, Holds}
use Prelude.{inside, is_acting, is_enabled, IsLegal, Kind, least, Leave, Load, Lock, lock}
use Prelude.{locked_pointer, Locking, looks, Make, model_state, Move, next, next_of, Offer, on}
use Prelude.{OnShelf, opening, owner_word, Plays, Put, put_on, Quiet, Read, reply_in, Rest}
use Prelude.{rest_of, rested, row, row_in, Said, said_by_row, Share, silent, slot_pointer}
use Prelude.{state_in, Step, step_of, step_of_act, Stepped, stepped, Swap, Task, trying, Turned}
use Prelude.{turned_by, TurnIs, went, world_state_by, WorldState}
use Rattle.step_threads.specs.declared.said.Stepped.TheVariants.{Event}
use Rattle.step_core.proofs.Entries.{acted, does, giving, make_step}
use Rattle.step_core.specs.Turns.{abstraction_after}
use Rattle.step_core.proofs.following.Replies.{goes_told, replied}
use Rattle.step_core.proofs.turning.Choosing.{chosen}
use Rattle.step_core.proofs.turning.Ending.{pending_call_after, pending_calls_after, moved}
use Rattle.step_core.proofs.turning.Ending.{rested_moved}
use Rattle.step_core.proofs.turning.Telling.{TellsCounts, tell_of}

-- what a step of an act says is what the turn says
said_on : (b : Bool) (x : Said) → turned_by (cond b (Event x) (Quiet x)) ≡ Acted x
said_on true x = refl
said_on false x = refl

-- the abstract state after an act alone
abbrev pub acted_abstraction : ℕ → WorldState → ℕ → List Task → Act → AbstractState
acted_abstraction d u k ts a =
    let w = frame_of (abstraction u) d in
    moved (abstraction u) d (went (model_state u.ghost_state) d w k ts a)
    (acted (tell_of u.ghost_state a) (opening u.ghost_state.extent) d w.slots u.ghost_state.history a)

abbrev pub acted_said : ℕ → WorldState → ℕ → Act → Said
acted_said d u k a =
    let w = frame_of (abstraction u) d in said_by_row k (row_in (tell_of u.ghost_state a) (model_state u.ghost_state) d w.slots w.taken a)

-- a step of an act that is none of a make says what the act says, and leaves what the act makes
abbrev pub Acts : ℕ → WorldState → ℕ → List Task → Act → Step → Type 0
Acts d u k ts a x = (x.said ≡ acted_said d u k a) × (abstraction (world_state_by d u (Some x)) ≡ acted_abstraction d u k ts a)

pub begins_so : (d : ℕ) (u : WorldState) (k : ℕ) (ts : List Task) (form : Form) (o : Option ℕ) → least d (model_state u.ghost_state).stores ≡ o
    → is_acting (begins (frame_of (abstraction u) d) k ts o).pending_call ≡ false → Acts d u k ts (Make form) (begins (frame_of (abstraction u) d) k ts o)
begins_so d u k ts form None e is =
    let w = frame_of (abstraction u) d in (
      ap (λ (q : Option ℕ). record { statement = k; answer = full_answer q; ended = None }) (sym e),
      ap (λ (q : Option ℕ). record {
        extent = u.ghost_state.extent;
        history = does (opening u.ghost_state.extent) d u.ghost_state.history (option_map (make_step form) q);
        frame_views = set u.frame_views d (let y = holding w.slots form.null q in frame_settled y.0 y.1 w.endings ts);
      }) (sym e),
    )
begins_so d u k ts form (Some b) e is = absurd (false≢true (sym is))

-- what is done, if anything
pub does_so : (d : ℕ) (v : GhostState) (o : Option AtomicStep) (w : List FrameView)
    → ◌≡◌ {A = AbstractState} (record { extent = (ghost_after v d o).extent; history = (ghost_after v d o).history; frame_views = w })
    (record { extent = v.extent; history = does (opening v.extent) d v.history o; frame_views = w })
does_so d v None w = refl
does_so d v (Some x) w = refl

-- a lock that is done
pub lock_so : (d : ℕ) (u : WorldState) (k : ℕ) (ts : List Task) (a : Act) (x : Handle) → locked_pointer (frame_of (abstraction u) d).slots a ≡ Some x
    → Acts d u k ts a (step_of_act u.ghost_state d (frame_of (abstraction u) d) k ts a (Some (lock (model_state u.ghost_state) x)) Rest)
lock_so d u k ts (Lock i must) x e =
    let w = frame_of (abstraction u) d in (
      refl,
      ap (λ (o : Option Handle). record {
        extent = u.ghost_state.extent;
        history = does (opening u.ghost_state.extent) d u.ghost_state.history (option_map (lock (model_state u.ghost_state)) o);
        frame_views = set u.frame_views d (went (model_state u.ghost_state) d w k ts (Lock i must));
      }) (sym e),
    )
lock_so d u k ts (Make form) x e = cc
lock_so d u k ts (Share i) x e = cc
lock_so d u k ts (Downgrade i) x e = cc
lock_so d u k ts (Put i) x e = cc
lock_so d u k ts (Leave i) x e = cc
lock_so d u k ts (Clear i) x e = cc
lock_so d u k ts (Count i) x e = cc
lock_so d u k ts (Expired i) x e = cc
lock_so d u k ts (Read i) x e = cc
lock_so d u k ts (FromThis i kind) x e = cc
lock_so d u k ts (Alias i j field) x e = cc
lock_so d u k ts (Move i) x e = cc
lock_so d u k ts (Ask q) x e = cc
lock_so d u k ts (Offer i c) x e = cc
lock_so d u k ts (Swap c) x e = cc
lock_so d u k ts (Exchange i c) x e = cc
lock_so d u k ts (Holds i c) x e = cc
lock_so d u k ts (Load cell) x e = cc
lock_so d u k ts (Compare name cell weak) x e = cc
lock_so d u k ts Drop x e = cc
lock_so d u k ts (OnShelf y) x e = cc

-- a lock of nothing
lose_so : (d : ℕ) (u : WorldState) (k : ℕ) (ts : List Task) (i : ℕ) (must : Bool) → locked_pointer (frame_of (abstraction u) d).slots (Lock i must) ≡ None
    → Acts d u k ts (Lock i must) (step_of_act u.ghost_state d (frame_of (abstraction u) d) k ts (Lock i must) None Rest)
lose_so d u k ts i must e =
    let w = frame_of (abstraction u) d in (
      refl,
      ap (λ (o : Option Handle). record {
        extent = u.ghost_state.extent;
        history = does (opening u.ghost_state.extent) d u.ghost_state.history (option_map (lock (model_state u.ghost_state)) o);
        frame_views = set u.frame_views d (went (model_state u.ghost_state) d w k ts (Lock i must));
      }) (sym e),
    )

pub looks_so : (d : ℕ) (u : WorldState) (k : ℕ) (ts : List Task) (i : ℕ) (must : Bool) (o : Option Handle)
    → locked_pointer (frame_of (abstraction u) d).slots (Lock i must) ≡ o
    → let w = frame_of (abstraction u) d in
    let a = Lock i must in
    let x = on (looks u.ghost_state d w k ts a) (step_of_act u.ghost_state d w k ts a None Rest) o in is_acting x.pending_call ≡ false → Acts d u k ts a x
looks_so d u k ts i must None e is = lose_so d u k ts i must e
looks_so d u k ts i must (Some y) e is =
    let w = frame_of (abstraction u) d in
    let a = Lock i must in
    let n = owner_word u.ghost_state y in
    cond_both (n == 0) (step_of_act u.ghost_state d w k ts a (Some (lock (model_state u.ghost_state) y)) Rest) (trying w k n)
    (λ (x : Step). is_acting x.pending_call ≡ false → Acts d u k ts a x) (λ t q. lock_so d u k ts a y e)
    (λ t q. absurd (false≢true (sym q ∙ ap (λ (b : Bool). is_acting (cond b Rest (Locking n))) t))) is

-- an object that gives no pointers to itself, or none to ask
unasked_so : (d : ℕ) (u : WorldState) (k : ℕ) (ts : List Task) (i : ℕ) (q : Kind)
    → giving (model_state u.ghost_state) (inside (slot_pointer (frame_of (abstraction u) d).slots i)) ≡ None
    → Acts d u k ts (FromThis i q) (step_of_act u.ghost_state d (frame_of (abstraction u) d) k ts (FromThis i q) None Rest)
unasked_so d u k ts i q e =
    let w = frame_of (abstraction u) d in (
      refl,
      ap (λ (o : Option Handle). record {
        extent = u.ghost_state.extent;
        history = does (opening u.ghost_state.extent) d u.ghost_state.history (option_map (give q) o);
        frame_views = set u.frame_views d (went (model_state u.ghost_state) d w k ts (FromThis i q));
      }) (sym e),
    )

pub asks_so : (d : ℕ) (u : WorldState) (k : ℕ) (ts : List Task) (i : ℕ) (q : Kind) (o : Option Handle)
    → inside (slot_pointer (frame_of (abstraction u) d).slots i) ≡ o
    → let w = frame_of (abstraction u) d in
    let a = FromThis i q in
    let x = on (asks u.ghost_state d w k ts i q) (step_of_act u.ghost_state d w k ts a None Rest) o in is_acting x.pending_call ≡ false → Acts d u k ts a x
asks_so d u k ts i q None e is = unasked_so d u k ts i q (ap (giving (model_state u.ghost_state)) e)
asks_so d u k ts i q (Some y) e is =
    let w = frame_of (abstraction u) d in
    let a = FromThis i q in
    cond_both (is_enabled (model_state u.ghost_state) y) (record { atomic_step = None; pending_call = Giving i q y; frame_view = w; said = silent k })
    (step_of_act u.ghost_state d w k ts a None Rest) (λ (x : Step). is_acting x.pending_call ≡ false → Acts d u k ts a x) (λ t z. absurd (false≢true (sym z)))
    (λ t z. unasked_so d u k ts i q (ap (giving (model_state u.ghost_state)) e ∙ cond-false (is_enabled (model_state u.ghost_state) y) (Some y) None t)) is

-- the next act of a thread in whose hands no object ends
pub next_task : (w : FrameView) (t : Task) (ts : List Task) → w.endings ≡ [] → w.todo ≡ t ∷ ts → next w ≡ Some t
next_task w t ts none todo = ap (λ (es : List Ending). next_of w.slots es w.todo) none ∙ ap (next_of w.slots []) todo

pub rest_tasks : (w : FrameView) (t : Task) (ts : List Task) → w.endings ≡ [] → w.todo ≡ t ∷ ts → rest_of w.endings w.todo ≡ ts
rest_tasks w t ts none todo = ap (λ (es : List Ending). rest_of es w.todo) none ∙ ap (rest_of []) todo

-- the history after a step is legal
abbrev pub LegalBy : ℕ → WorldState → Option Step → Type 0
LegalBy d u o = let v = ghost_by u.ghost_state d o in IsLegal (opening v.extent) v.history

-- a step that is the next act, with these tasks after it
acts_now : (d : ℕ) (u : WorldState) (t : Task) (ts : List Task) (x : Step) → rest_of (frame_of (abstraction u) d).endings (frame_of (abstraction u) d).todo ≡ ts
    → Acts d u t.statement ts t.act x → TellsCounts d u (tell_of u.ghost_state t.act) → d < length u.frame_views → LegalBy d u (Some x)
    → let c = abstraction u in ActsNow (CountsAll d u (state_in c)) d c t x.said (rested d (abstraction (world_state_by d u (Some x))))
acts_now d u t ts x after so tells lt legal =
    let c = abstraction u in
    let s = model_state u.ghost_state in
    let w = frame_of c d in
    let z = opening u.ghost_state.extent in
    let tell = tell_of u.ghost_state t.act in
    let h = acted tell z d w.slots u.ghost_state.history t.act in
    let q = replied tell z d u.ghost_state.history w t.act in
    let reply = reply_in tell s d w.slots t.act in
    record {
      event = q.event;
      frame_view = frame_after_act w t.statement (rest_of w.endings w.todo) (row t.act w.slots w.taken reply);
      acts = record { reply = reply; makes = q.makes; says = so.0; goes = refl };
      legal = subst (IsLegal z) q.history (subst (λ (b : AbstractState). IsLegal (opening b.extent) b.history) so.1 legal);
      chosen = chosen (CountsAll d u s) tell z d u.ghost_state.history w tells t.act;
      goes =
          ap (rested d) so.1 ∙ rested_moved c d (went s d w t.statement ts t.act) h lt
          ∙ ap (λ (k : History). abstraction_after d c k (went s d w t.statement ts t.act)) q.history
          ∙ ap (λ (l : List Task). abstraction_after d c (put_on d q.event c.history) (went s d w t.statement l t.act)) (sym after)
          ∙ ap (abstraction_after d c (put_on d q.event c.history))
          (goes_told tell s d t.statement w (rest_of w.endings w.todo) t.act);
    }

-- what a thread does whose next act is this, with these tasks after it
pub plays_next : (d : ℕ) (u : WorldState) (t : Task) (ts : List Task) (x : Step) (r : Stepped) → next (frame_of (abstraction u) d) ≡ Some t
    → rest_of (frame_of (abstraction u) d).endings (frame_of (abstraction u) d).todo ≡ ts → step_of d u ≡ Some x
    → r ≡ stepped u.ghost_state (step_of d u) → Acts d u t.statement ts t.act x → TellsCounts d u (tell_of u.ghost_state t.act)
    → is_acting x.pending_call ≡ false → d < length u.pending_calls → d < length u.frame_views → LegalBy d u (step_of d u)
    → Plays d u (turned_by r) (world_state_by d u (step_of d u))
plays_next d u t ts x r now after is answer so tells rest lt frame_views legal =
    let c = abstraction u in
    let h = pending_call_after d u (Some x) lt in
    let after_it = rested d (abstraction (world_state_by d u (Some x))) in
    subst (λ (o : Option Step). r ≡ stepped u.ghost_state o → LegalBy d u o → Plays d u (turned_by r) (world_state_by d u o)) (sym is)
    (λ e l. record {
      turn = subst (λ (q : Turned). TurnIs (CountsAll d u (state_in c)) d c q after_it)
          (sym (ap turned_by e ∙ said_on (atomic_step_is_event u.ghost_state x.atomic_step) x.said))
          (t, now, acts_now d u t ts x after so tells frame_views l);
      done = ap is_acting h ∙ rest;
      pending_calls = pending_calls_after d u (Some x) lt;
    }) answer legal

-- what it does where no object ends in its hands
pub plays_as : (d : ℕ) (u : WorldState) (t : Task) (ts : List Task) (x : Step) (r : Stepped) → (frame_of (abstraction u) d).endings ≡ []
    → (frame_of (abstraction u) d).todo ≡ t ∷ ts → step_of d u ≡ Some x
    → r ≡ stepped u.ghost_state (step_of d u) → Acts d u t.statement ts t.act x → TellsCounts d u (tell_of u.ghost_state t.act)
    → is_acting x.pending_call ≡ false → d < length u.pending_calls → d < length u.frame_views → LegalBy d u (step_of d u)
    → Plays d u (turned_by r) (world_state_by d u (step_of d u))
plays_as d u t ts x r none todo =
    let w = frame_of (abstraction u) d in plays_next d u t ts x r (next_task w t ts none todo) (rest_tasks w t ts none todo)
