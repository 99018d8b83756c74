-- What holds after each step of a run, and of each of its steps.
use Rattle.std.proofs.Common.{◌≡◌, ℕ, ◌-◌, ◌<◌, Bool, true, false, cond, not, ◌&&◌, ◌⊎◌, ◌↔◌, List}
use Rattle.std.proofs.Common.{[], ◌∷◌, length, ◌==◌, sym, refl, ap, ◌∙◌, subst, inl, inr, arith}
use Rattle.std.proofs.Common.{eqb-true}
use Rattle.step_core.proofs.Prelude.{count, ends_by, Entry, entry, eqb-false, Event, Extent}
use Rattle.step_core.proofs.Prelude.{false≢true, given, given_over, is_event, is_last_leave}
use Rattle.step_core.proofs.Prelude.{IsLegal, LastLeft, model_state, Nothing, NumberedHandle}
use Rattle.step_core.proofs.Prelude.{object_of, opening, over, rests_unkept, TableInvariant}
use Rattle.step_core.proofs.Prelude.{TakesStep, TraceStep, Was, WorldState}
use Rattle.control_word.specs.declared.model.event.Event.TheVariants.{Leave, Lock}
use Rattle.control_word.specs.Events.{Asks}
use Rattle.control_word.proofs.history.Given.{live_while_owned}
use Rattle.control_word.proofs.history.Made.{gives_once}
use Rattle.step_core.specs.Headline.{ValueCameOut, CountsAtRest, LocksWhereOwned}
use Rattle.step_core.specs.Headline.{ValuesAtLastLeave, ValuesOnce}

-- a step of the run, with what was before it and what is after it
pub record IsStep (u : WorldState) (x : TraceStep) (u' : WorldState) : Type 0 where
  pub takes : TakesStep (x.actor - 1) u x.stepped u'
  pub before : TableInvariant u.ghost_state
  pub after : TableInvariant u'.ghost_state

pub counts : (u : WorldState) → TableInvariant u.ghost_state → CountsAtRest u
counts u kept = λ b inside rest.
    let r = rests_unkept (opening u.ghost_state.extent) u.ghost_state.words u.ghost_state.views u.ghost_state.history kept.stands refl b inside rest in
    record { owners = r.0; weaks = r.1 }

pub values : (u : WorldState) → TableInvariant u.ghost_state → ValuesOnce u
values u kept = gives_once (opening u.ghost_state.extent) u.ghost_state.history kept.stands.legal

-- the event of a step could come there
pub asked : (u : WorldState) (x : TraceStep) (u' : WorldState) (e : Event Nothing) → IsStep u x u' → Was e u x u' → Asks (model_state u.ghost_state)
    (x.actor - 1) e
asked u x u' e step was =
    let d = x.actor - 1 in
    let legal = subst (λ (h : List (Entry Nothing)). IsLegal (opening u'.ghost_state.extent) h) was step.after.stands.legal in
    let here : IsLegal (opening u.ghost_state.extent) (entry d e ∷ u.ghost_state.history) = subst
    (λ (z : Extent). IsLegal (opening z) (entry d e ∷ u.ghost_state.history)) step.takes.extent legal in
    here.1.asks

gave_where : (gave : Bool) (n : ℕ) → gave ≡ not (n == 0) → (gave ≡ true) ↔ (0 < n)
gave_where gave n e = go (n == 0) refl e
  where
    go : (b : Bool) → (n == 0) ≡ b → gave ≡ not b → (gave ≡ true) ↔ (0 < n)
    go true none is = (λ t. absurd (false≢true (sym is ∙ t)), λ more. absurd (let z = eqb-true n 0 none in omega (arith, z, more)))
    go false some is = (λ t. let ne = eqb-false n 0 some in omega (arith, ne), λ more. is)

pub locks : (u : WorldState) (x : TraceStep) (u' : WorldState) → IsStep u x u' → LocksWhereOwned u x u'
locks u x u' step = λ w gave was.
    let a = asked u x u' (Lock w gave) step was in gave_where gave (count (model_state u.ghost_state) (object_of w)) a.1

-- what the newest event is
abbrev pub newest_is_last : List (Entry Nothing) → Bool
newest_is_last [] = false
newest_is_last (e ∷ h) = is_last_leave e.event

abbrev left_object : Event Nothing → ℕ
left_object (Leave h last) = object_of h
left_object _ = 0

abbrev newest_object : List (Entry Nothing) → ℕ
newest_object [] = 0
newest_object (e ∷ h) = left_object e.event

ends_none : (o : ℕ) (e : Event Nothing) → is_last_leave e ≡ false → ends_by o e ≡ 0
ends_none o (Leave h true) none = absurd (false≢true (sym none))
ends_none o (Leave h false) none = refl
ends_none o _ none = refl

-- the value comes out at the step, or nothing of it changes
abbrev pub AtLastLeave : ℕ → WorldState → TraceStep → WorldState → Type 0
AtLastLeave o u x u' =
    (LastLeft o u x u' × ValueCameOut o u u') ⊎ ((LastLeft o u x u' → ⊥) × (given o u'.ghost_state.history ≡ given o u.ghost_state.history))

no_event : (o : ℕ) (u : WorldState) (x : TraceStep) (u' : WorldState) → u'.ghost_state.history ≡ u.ghost_state.history → AtLastLeave o u x u'
no_event o u x u' same =
    inr (λ l. let n = ap (λ (h : List (Entry Nothing)). length h) (sym same ∙ l.left) in omega (arith, n), ap (given o) same)

other_event : (o : ℕ) (u : WorldState) (x : TraceStep) (u' : WorldState) (e : Event Nothing) → Was e u x u' → is_last_leave e ≡ false → AtLastLeave o u x u'
other_event o u x u' e was none =
    let g = ap (given o) was in
    let z = ends_none o e none in
    inr (λ l. false≢true (sym none ∙ ap newest_is_last (sym was ∙ l.left)), omega (arith, g, z))

last_event : (o : ℕ) (u : WorldState) (x : TraceStep) (u' : WorldState) (h : NumberedHandle) → IsStep u x u' → Was (Leave h true) u x u' → AtLastLeave o u x u'
last_event o u x u' h step was = go (object_of h == o) refl
  where
    go : (b : Bool) → (object_of h == o) ≡ b → AtLastLeave o u x u'
    go true e =
        let same = eqb-true (object_of h) o e in
        let asks = asked u x u' (Leave h true) step was in
        let one : count (model_state u.ghost_state) o ≡ 1 = ap (count (model_state u.ghost_state)) (sym same) ∙ eqb-true _ 1 (sym asks.1) in
        let lives = (live_while_owned (opening u.ghost_state.extent) u.ghost_state.history step.before.stands.legal o).1 (omega (arith, one)) in
        let none : given o u.ghost_state.history ≡ 0 = given_over (opening u.ghost_state.extent) u.ghost_state.history step.before.stands.legal o ∙ ap over
        lives in
        let g = ap (given o) was in
        let c = ap {B = ℕ} (λ (b : Bool). cond (true && b) 1 0) e in
        inl (record { owner = h; left = was; object = same; last = one }, record { before = none; after = omega (arith, g, none, c) })
    go false e =
        let g = ap (given o) was in
        let c = ap {B = ℕ} (λ (b : Bool). cond (true && b) 1 0) e in
        inr (λ l. eqb-false (object_of h) o e (ap newest_object (sym was ∙ l.left) ∙ l.object), omega (arith, g, c))

any_event : (o : ℕ) (u : WorldState) (x : TraceStep) (u' : WorldState) (e : Event Nothing) → IsStep u x u' → Was e u x u' → AtLastLeave o u x u'
any_event o u x u' (Leave h true) step was = last_event o u x u' h step was
any_event o u x u' (Leave h false) step was = other_event o u x u' (Leave h false) was refl
any_event o u x u' _ step was = other_event o u x u' _ was refl

pub last_leaves : (u : WorldState) (x : TraceStep) (u' : WorldState) → IsStep u x u' → ValuesAtLastLeave u x u'
last_leaves u x u' step = λ o. go o (is_event x.stepped) refl
  where
    go : (o : ℕ) (b : Bool) → is_event x.stepped ≡ b → AtLastLeave o u x u'
    go o true is = let e = step.takes.event is in any_event o u x u' e.0 step e.1
    go o false is = no_event o u x u' (step.takes.quiet is)
