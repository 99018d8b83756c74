-- A thread on the way of an act, and its next step.
use Rattle.std.proofs.Common.{◌≡◌, ℕ, Bool, true, false, List, [], ◌∷◌, Some, Option, option_map}
use Rattle.std.proofs.Common.{sym, refl, ap, ◌∙◌, subst, inr}
use Rattle.step_core.proofs.Prelude
use Prelude.{abstraction, at_rest, Block, Brought, CellWord, Clearing, Count, Ending, false≢true}
use Prelude.{first, frame_of, FrameView, given_step, Giving, Handle, HasBegun, IsAlone, IsInShape}
use Prelude.{IsMatched, IsOver, IsProperPendingCall, IsSeen, IsSwap, IsTried, IsUnderWay, Kind}
use Prelude.{locked_pointer, Locking, made_on, Making, Matched, matched, matched_on, NextActLocks}
use Prelude.{pending_call_of, PendingCall, Refill, Rest, Returning, returns, Saw, saw, saw_on}
use Prelude.{sent, Slots, Step, step_at, step_of, Task, tried, tries, waits, WorldState}
use Rattle.step_threads.specs.NextSteps.{begun as begun_at}
use Rattle.step_core.proofs.turning.Giving.{giving_out}
use Rattle.step_core.proofs.turning.Locking.{full_some, tries_out}
use Rattle.step_core.proofs.turning.Looking.{awake_on, can_look}
use Rattle.step_core.proofs.turning.Making.{making_out}
use Rattle.step_core.proofs.turning.Outcomes.{matched_out, rest_out, saw_out}
use Rattle.step_core.proofs.turning.Putting.{putting_out}
use Rattle.step_core.proofs.turning.Trials.{Next, Outcome, is_looking}

abbrev pub LooksNext : Slots → List Task → Type 0
LooksNext slots [] = ⊥
LooksNext slots (t ∷ ts) = is_looking slots t.act ≡ true

-- a pending call on the way of an act: at rest and with funds to give back, the act begins again
abbrev pub Tries : PendingCall → FrameView → Type 0
Tries Rest w = LooksNext w.slots w.todo × (w.endings ≡ [])
Tries (Returning kind b funds k) w = LooksNext w.slots w.todo × (w.endings ≡ [])
Tries (Refill stage c x k) w = ⊥
Tries Clearing w = ⊥
Tries _ w = Unit {0}

-- such a thread isn't at its end
pub tries_first : (d : ℕ) (u : WorldState) → Tries (pending_call_of u d) (frame_of (abstraction u) d) → IsOver d u → ⊥
tries_first d u tries over =
    let w = frame_of (abstraction u) d in
    let looks : Tries Rest w = subst (λ (h : PendingCall). Tries h w) over.pending_call tries in
    subst (LooksNext w.slots) over.frame_view looks.0

-- a thread on the way of an act, and its next step
pub record Trial (d : ℕ) (u : WorldState) : Type 0 where
  pub task : Task
  pub tasks : List Task
  pub step : Step
  pub none : (frame_of (abstraction u) d).endings ≡ []
  pub todo : (frame_of (abstraction u) d).todo ≡ task ∷ tasks
  pub counts : (i : ℕ) → task.act ≡ Count i → ⊥
  pub is : step_of d u ≡ Some step
  pub out : Outcome d u task.statement tasks task.act step

module _ (d : ℕ) (u : WorldState) where
  trial_by : (h : PendingCall) (t : Task) (ts : List Task) (o : Option Step) → pending_call_of u d ≡ h
      → (frame_of (abstraction u) d).endings ≡ []
      → (frame_of (abstraction u) d).todo ≡ t ∷ ts → step_at u.ghost_state d h (frame_of (abstraction u) d) ≡ o
      → Next d u t.statement ts t.act o → Trial d u
  trial_by h t ts o e none todo is n =
      record {
        task = t;
        tasks = ts;
        step = n.0;
        none = none;
        todo = todo;
        counts = n.3;
        is = ap (λ (h : PendingCall). step_at u.ghost_state d h (frame_of (abstraction u) d)) e ∙ is ∙ n.1;
        out = n.2;
      }

  trial_rest : (ts : List Task) → pending_call_of u d ≡ Rest → (frame_of (abstraction u) d).todo ≡ ts
      → LooksNext (frame_of (abstraction u) d).slots ts
      → (frame_of (abstraction u) d).endings ≡ [] → waits u.ghost_state (pending_call_of u d) (frame_of (abstraction u) d) ≡ false → HasBegun d u
      → Trial d u
  trial_rest [] e todo looks none awake begun = absurd looks
  trial_rest (t ∷ ts) e todo looks none awake begun =
      let w = frame_of (abstraction u) d in
      let v = u.ghost_state in
      let x = first v d w t.statement ts t.act in
      trial_by Rest t ts (Some x) e none todo
      (ap (λ (l : List Ending). at_rest v d w l) none ∙ ap (λ (l : List Task). begun_at v d w l) todo) (
        x,
        refl,
        rest_out d u t.statement ts t.act looks (can_look d u t ts todo begun) (awake_on d u t ts e none todo awake),
        λ i q. false≢true (sym (ap (is_looking w.slots) q) ∙ looks),
      )

  trial_back : (ts : List Task) (kind : Kind) (b : Block) (f k : ℕ) → pending_call_of u d ≡ Returning kind b f k
      → (frame_of (abstraction u) d).todo ≡ ts
      → LooksNext (frame_of (abstraction u) d).slots ts → (frame_of (abstraction u) d).endings ≡ [] → Trial d u
  trial_back [] kind b f k e todo looks none = absurd looks
  trial_back (t ∷ ts) kind b f k e todo looks none =
      let w = frame_of (abstraction u) d in
      trial_by (Returning kind b f k) t ts (Some (returns w kind b f k)) e none todo refl (
        returns w kind b f k,
        refl,
        inr (record { quiet = refl; said = refl; frame_view = refl; history = refl; extent = refl; pending_call = looks }),
        λ i q. false≢true (sym (ap (is_looking w.slots) q) ∙ looks),
      )

  module _ (begun : HasBegun d u) where
    alone_now : (h : PendingCall) → pending_call_of u d ≡ h → IsAlone h (frame_of (abstraction u) d).endings
    alone_now h e = subst (λ (h : PendingCall). IsAlone h (frame_of (abstraction u) d).endings) e begun.alone

    tried_now : (h : PendingCall) → pending_call_of u d ≡ h → IsTried h (frame_of (abstraction u) d)
    tried_now h e = subst (λ (h : PendingCall). IsTried h (frame_of (abstraction u) d)) e begun.tried

    under_way : (h : PendingCall) → pending_call_of u d ≡ h → IsUnderWay d u.ghost_state h (frame_of (abstraction u) d).todo
    under_way h e = subst (λ (h : PendingCall). IsUnderWay d u.ghost_state h (frame_of (abstraction u) d).todo) e begun.pending_call

    trial_saw : (ts : List Task) (x : CellWord) → pending_call_of u d ≡ Saw x → (frame_of (abstraction u) d).todo ≡ ts
        → IsSeen (frame_of (abstraction u) d).slots x ts → Trial d u
    trial_saw [] x e todo seen = absurd seen
    trial_saw (t ∷ ts) x e todo seen =
        let w = frame_of (abstraction u) d in
        let v = u.ghost_state in
        trial_by (Saw x) t ts (saw_on v d w t.statement ts x t.act) e (alone_now (Saw x) e) todo (ap (saw v d w x) todo)
        (saw_out d u t.statement ts x t.act seen (subst (λ (h : PendingCall). IsProperPendingCall d v h) e begun.proper)
        (can_look d u t ts todo begun))

    trial_matched : (ts : List Task) (x : CellWord) → pending_call_of u d ≡ Matched x → (frame_of (abstraction u) d).todo ≡ ts
        → IsMatched (frame_of (abstraction u) d).slots x ts → Trial d u
    trial_matched [] x e todo seen = absurd seen
    trial_matched (t ∷ ts) x e todo seen =
        let w = frame_of (abstraction u) d in
        let v = u.ghost_state in
        trial_by (Matched x) t ts (matched_on v d w t.statement ts x t.act) e (alone_now (Matched x) e) todo
        (ap (matched v d w x) todo)
        (matched_out d u t.statement ts x t.act seen (subst (λ (h : PendingCall). IsProperPendingCall d v h) e begun.proper)
        (can_look d u t ts todo begun))

    trial_making : (ts : List Task) (b : Block) (i : ℕ) (f : Bool) → pending_call_of u d ≡ Making b i f
        → (frame_of (abstraction u) d).todo ≡ ts
        → IsUnderWay d u.ghost_state (Making b i f) ts → Trial d u
    trial_making [] b i f e todo way = absurd way
    trial_making (t ∷ ts) b i f e todo way =
        let w = frame_of (abstraction u) d in
        trial_by (Making b i f) t ts (made_on u.ghost_state d w b i f (t ∷ ts)) e (alone_now (Making b i f) e) todo
        (ap (made_on u.ghost_state d w b i f) todo) (making_out d u b i f t ts way)

    trial_locking : (ts : List Task) (word : ℕ) → pending_call_of u d ≡ Locking word → (frame_of (abstraction u) d).todo ≡ ts
        → NextActLocks (frame_of (abstraction u) d).slots ts → Trial d u
    trial_locking [] word e todo is = absurd is
    trial_locking (t ∷ ts) word e todo is =
        let w = frame_of (abstraction u) d in
        let y = full_some (locked_pointer w.slots t.act) is in
        let x = tries u.ghost_state d w t.statement ts t.act word y.0 in
        trial_by (Locking word) t ts (Some x) e (alone_now (Locking word) e) todo
        (ap (tried u.ghost_state d w word) todo ∙ ap (option_map (tries u.ghost_state d w t.statement ts t.act word)) y.1) (
          x,
          refl,
          tries_out d u t.statement ts t.act y.0 y.1 word,
          λ i q.
              (let p = y.1 in let z = ap (locked_pointer w.slots) q in cc),
        )

    trial_giving : (ts : List Task) (i : ℕ) (kind : Kind) (x : Handle) → pending_call_of u d ≡ Giving i kind x
        → (frame_of (abstraction u) d).todo ≡ ts
        → IsUnderWay d u.ghost_state (Giving i kind x) ts → Trial d u
    trial_giving [] i kind x e todo way = absurd way
    trial_giving (t ∷ ts) i kind x e todo way =
        let w = frame_of (abstraction u) d in
        trial_by (Giving i kind x) t ts (given_step u.ghost_state d w i kind x (t ∷ ts)) e (alone_now (Giving i kind x) e) todo
        (ap (given_step u.ghost_state d w i kind x) todo) (giving_out d u i kind x t ts way (tried_now (Giving i kind x) e))

    trial_brought : (ts : List Task) → pending_call_of u d ≡ Brought → (frame_of (abstraction u) d).todo ≡ ts
        → IsSwap (frame_of (abstraction u) d).slots ts → Trial d u
    trial_brought [] e todo is = absurd is
    trial_brought (t ∷ ts) e todo is =
        let w = frame_of (abstraction u) d in
        let cell = subst (λ (l : List Task). IsInShape u.ghost_state.extent.shape l) todo begun.cell in
        trial_by Brought t ts (sent u.ghost_state d w (t ∷ ts)) e (alone_now Brought e) todo (ap (sent u.ghost_state d w) todo)
        (putting_out d u t ts (begun.seat, begun.kept, cell, begun.holds) is)

    pub trial_of : (h : PendingCall) → pending_call_of u d ≡ h → Tries h (frame_of (abstraction u) d)
        → waits u.ghost_state (pending_call_of u d) (frame_of (abstraction u) d) ≡ false → Trial d u
    trial_of Rest e tries awake = trial_rest (frame_of (abstraction u) d).todo e refl tries.0 tries.1 awake begun
    trial_of (Making b i f) e tries awake =
        trial_making (frame_of (abstraction u) d).todo b i f e refl (under_way (Making b i f) e)
    trial_of (Locking word) e tries awake =
        trial_locking (frame_of (abstraction u) d).todo word e refl (tried_now (Locking word) e)
    trial_of (Giving i kind x) e tries awake =
        trial_giving (frame_of (abstraction u) d).todo i kind x e refl (under_way (Giving i kind x) e)
    trial_of Brought e tries awake = trial_brought (frame_of (abstraction u) d).todo e refl (tried_now Brought e)
    trial_of (Saw x) e tries awake = trial_saw (frame_of (abstraction u) d).todo x e refl (tried_now (Saw x) e)
    trial_of (Matched x) e tries awake = trial_matched (frame_of (abstraction u) d).todo x e refl (tried_now (Matched x) e)
    trial_of (Returning kind b f k) e tries awake =
        trial_back (frame_of (abstraction u) d).todo kind b f k e refl tries.0 tries.1
    trial_of (Refill stage c x k) e tries awake = absurd tries
    trial_of Clearing e tries awake = absurd tries
