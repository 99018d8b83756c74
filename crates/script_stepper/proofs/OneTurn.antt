-- One turn of a world at rest.
use Rattle.std.proofs.Common.{◌≡◌, ℕ, ◌-◌, ◌<◌, ◌≤◌, List, [], ◌∷◌, ◌++◌, length, get_or, is_some}
use Rattle.std.proofs.Common.{slice_set, Some, None, Option, sym, refl, ap, ◌∙◌, subst, inl, inr}
use Rattle.std.proofs.Common.{append-nil, arith, length-set, get_or-set_other, get_or-set_same}
use Rattle.script_stepper.proofs.Prelude
use Prelude.{abstraction, AbstractState, acted, AllRest, Always, cases_eq, cases_lt, ended, exact}
use Prelude.{flat_map, frame_of, FrameView, get_or_past, HasRun, heard, Item, item_lines, next}
use Prelude.{nowhere, opening, PendingCall, put_frame, Rest, rest_of, Said, said_lines, set-get_or}
use Prelude.{state_in, TakesTurn, Task, turns_left, Waits, WorldState}
use Rattle.step_threads.specs.declared.said.Turned.{Turned}
use Rattle.step_threads.specs.declared.said.Turned.TheVariants.{Acted, Done}
use Rattle.step_threads.specs.AbstractStates.{rested}
use Rattle.step_table.specs.GhostStates.{TableInvariant}
use Rattle.step_core.specs.Turns.{TurnIs}
use Rattle.step_core.specs.Worlds.{CountsAll, NoneLoads, TakesWholeTurn, is_loading}
use Rattle.step_core.proofs.turning.Turns.{turn_less}
use Rattle.step_core.proofs.telling.Order.{ended_few}
use Rattle.script_stepper.proofs.Takings.{turn_is}
use Rattle.script_stepper.proofs.Plays.{play, play_from}
use Rattle.script_stepper.proofs.Acting.{went_size}
use Rattle.script_stepper.proofs.LineLemmas.{flat_map-one}
use Rattle.script_stepper.proofs.TraceLemmas.{play_other, play_size}
use Rattle.script_stepper.proofs.TurnsLeft.{InOrder, next_frame, next_wound, play_less, play_most}
use Rattle.script_stepper.proofs.TurnsLeft.{put}
use Rattle.script_stepper.proofs.Unwinding.{rested_size, rested_still, rested_waits}

-- endings that wait go on no further by themselves
rested_same : (c : AbstractState) (d : ℕ) → Waits (frame_of c d) → rested d c ≡ c
rested_same c d w =
    ap (put_frame c d (frame_of c d)) (rested_still (opening c.extent) d c.history (frame_of c d) w.endings)
    ∙ ap (λ (frame_views : List FrameView). record { extent = c.extent; history = c.history; frame_views = frame_views }) (set-get_or c.frame_views d nowhere)

pub at_rest : (u : WorldState) (d : ℕ) → AllRest u → d < length u.frame_views → rested d (abstraction u) ≡ abstraction u
at_rest u d rests lt = rested_same (abstraction u) d (rests.frame_views d lt)

-- ---- after it the world is at rest

waits_at : (c : AbstractState) (d : ℕ) (o : Option Task) → d < length c.frame_views → Waits (frame_of c d) → Waits
    (frame_of (play_from c d (frame_of c d) o) d)
waits_at c d None lt h = h
waits_at c d (Some t) lt h =
    let w = next_frame c d (frame_of c d) t in
    let x = next_wound c d (frame_of c d) t in
    let z = opening c.extent in
    let after = acted exact z d (frame_of c d).slots c.history t.act in
    let size = went_size (state_in c) d (frame_of c d) t.statement (rest_of (frame_of c d).endings (frame_of c d).todo) t.act in
    let more = rested_size z d after w in
    let some = h.some in
    let here : frame_of (play_from c d (frame_of c d) (Some t)) d ≡ put w x = get_or-set_same c.frame_views d (put w x) nowhere lt in
    subst Waits (sym here) (record { some = omega (arith, size, more, some); endings = rested_waits z d after w (omega (arith, size, some)) })

pub play_waits : (c : AbstractState) (d e : ℕ) → d < length c.frame_views → e < length c.frame_views →
    ((i : ℕ) → i < length c.frame_views → Waits (frame_of c i))
    → Waits (frame_of (play d c) e)
play_waits c d e here lt h =
    elim (cases_eq e d) [
      | inl same ↦ subst (λ (i : ℕ). Waits (frame_of (play d c) i)) (sym same) (waits_at c d (next (frame_of c d)) here (h d here))
      | inr ne ↦ subst Waits (sym (play_other d e c ne)) (h e lt)
    ]

still_rest : (pending_calls : List PendingCall) (d e : ℕ) → get_or pending_calls e Rest ≡ Rest → get_or (slice_set pending_calls d Rest) e Rest ≡ Rest
still_rest pending_calls d e h =
    elim (cases_eq e d) [
      | inl same ↦ elim (cases_lt d (length pending_calls)) [
        | inl lt ↦ subst (λ (i : ℕ). get_or (slice_set pending_calls d Rest) i Rest ≡ Rest) (sym same) (get_or-set_same pending_calls d Rest Rest lt)
        | inr le ↦ (let n = length-set pending_calls d Rest in get_or_past (slice_set pending_calls d Rest) e Rest (omega (arith, n, le, same)))
      ]
      | inr ne ↦ get_or-set_other pending_calls d e Rest Rest ne ∙ h
    ]

rests_on : (u u' : WorldState) (d : ℕ) → AllRest u → d < length u.frame_views → abstraction u' ≡ play d (abstraction u)
    → u'.pending_calls ≡ slice_set u.pending_calls d Rest → AllRest u'
rests_on u u' d rests lt is pending_calls =
    record {
      pending_calls = λ e. ap (λ (l : List PendingCall). get_or l e Rest) pending_calls ∙ still_rest u.pending_calls d e (rests.pending_calls e);
      frame_views = λ e here.
          let n = ap (λ (c : AbstractState). length c.frame_views) is in
          let m = play_size d (abstraction u) in
          subst (λ (c : AbstractState). Waits (frame_of c e)) (sym is) (play_waits (abstraction u) d e lt (omega (arith, n, m, here)) rests.frame_views);
    }

-- ---- what it does

none_loads : (u : WorldState) (d : ℕ) → AllRest u → NoneLoads d u
none_loads u d rests = λ e ne. ap is_loading (rests.pending_calls e)

-- a turn of this thread, which said this
pub record Turn (thread : ℕ) (u u' : WorldState) (x : Option Said) : Type 0 where
  pub rests : AllRest u'
  pub acts : is_some x ≡ is_some (next (frame_of (abstraction u) (thread - 1)))
  pub takes : TakesTurn thread (abstraction u) (next (frame_of (abstraction u) (thread - 1))) (heard thread x) (abstraction u')
  pub order : InOrder (abstraction u')

-- it leads where the machine's replies lead
turn_plays : (thread : ℕ) (u u' : WorldState) (x : List Item)
    → TakesTurn thread (abstraction u) (next (frame_of (abstraction u) (thread - 1))) x (abstraction u')
    → abstraction u' ≡ play (thread - 1) (abstraction u)
turn_plays thread u u' x takes = (turn_is thread (abstraction u) (next (frame_of (abstraction u) (thread - 1))) x (abstraction u') takes).1

whole_turn : (thread : ℕ) (u u' : WorldState) (x : Option Said) → AllRest u → thread - 1 < length u.frame_views → TableInvariant u'.ghost_state
    → is_some x ≡ is_some (next (frame_of (abstraction u) (thread - 1)))
    → TakesTurn thread (abstraction u) (next (frame_of (abstraction u) (thread - 1))) (heard thread x) (abstraction u')
    → u'.pending_calls ≡ slice_set u.pending_calls (thread - 1) Rest → Turn thread u u' x
whole_turn thread u u' x rests lt kept acts takes pending_calls =
    record {
      rests = rests_on u u' (thread - 1) rests lt (turn_plays thread u u' (heard thread x) takes) pending_calls;
      acts = acts;
      takes = takes;
      order = ended_few (opening u'.ghost_state.extent) u'.ghost_state.history kept.stands.legal;
    }

-- where no thread is within an act, each count is exact, and the turn begins where the world is
exact_turn : (d : ℕ) (u u' : WorldState) (r : Turned) → AllRest u → d < length u.frame_views → TakesWholeTurn d u r u'
    → TurnIs Always d (abstraction u) r (abstraction u')
exact_turn d u u' r rests lt t =
    let c = rested d (abstraction u) in
    subst (λ (b : AbstractState). TurnIs Always d b r (abstraction u')) (at_rest u d rests lt)
    (turn_less (CountsAll d u (state_in c)) Always (λ h _. inl (none_loads u d rests)) d c (abstraction u') r t.0)

pub acted_turn : (thread : ℕ) (u u' : WorldState) (x : Said) → AllRest u → thread - 1 < length u.frame_views → TableInvariant u'.ghost_state
    → TakesWholeTurn (thread - 1) u (Acted x) u' → Turn thread u u' (Some x)
acted_turn thread u u' x rests lt kept t =
    let q = exact_turn (thread - 1) u u' (Acted x) rests lt t in
    whole_turn thread u u' (Some x) rests lt kept (sym (ap is_some q.1))
    (subst (λ (o : Option Task). TakesTurn thread (abstraction u) o (heard thread (Some x)) (abstraction u')) (sym q.1) (x, q.2, refl)) t.1

pub done_turn : (thread : ℕ) (u u' : WorldState) → AllRest u → thread - 1 < length u.frame_views → TableInvariant u'.ghost_state
    → TakesWholeTurn (thread - 1) u Done u' → Turn thread u u' None
done_turn thread u u' rests lt kept t =
    let q = exact_turn (thread - 1) u u' Done rests lt t in
    whole_turn thread u u' None rests lt kept (sym (ap is_some q.0))
    (subst (λ (o : Option Task). TakesTurn thread (abstraction u) o [] (abstraction u')) (sym q.0) (refl, q.1)) t.1

-- ---- the run that it is

pub turn_run : (thread : ℕ) (u u' : WorldState) (x : Option Said) (a b : List ℕ) → Turn thread u u' x
    → b ≡ a ++ ended (flat_map item_lines (heard thread x)) → HasRun (thread ∷ []) u u' a b
turn_run thread u u' x a b t e =
    let is = turn_plays thread u u' (heard thread x) t.takes in
    record {
      rests = t.rests;
      items = heard thread x;
      takes = (heard thread x, [], abstraction u', t.takes, (refl, refl), sym (append-nil (heard thread x)));
      text_is = e;
      most = λ d. subst (λ (c : AbstractState). turns_left d c ≤ turns_left d (abstraction u)) (sym is)
          (play_most (thread - 1) d (abstraction u) (subst InOrder is t.order));
    }

pub acted_text : (thread : ℕ) (x : Said) (a b : List ℕ) → b ≡ a ++ ended (said_lines thread x)
    → b ≡ a ++ ended (flat_map item_lines (heard thread (Some x)))
acted_text thread x a b e = e ∙ ap (λ (l : List (List ℕ)). a ++ ended l) (sym (flat_map-one item_lines (thread, x)))

pub done_text : (thread : ℕ) (a : List ℕ) → a ≡ a ++ ended (flat_map item_lines (heard thread None))
done_text thread a = sym (append-nil a)

-- an act leaves its thread fewer turns
pub turn_fewer : (thread : ℕ) (u u' : WorldState) (x : Said) → thread - 1 < length u.frame_views → Turn thread u u' (Some x)
    → turns_left (thread - 1) (abstraction u') < turns_left (thread - 1) (abstraction u)
turn_fewer thread u u' x lt t =
    let is = turn_plays thread u u' (heard thread (Some x)) t.takes in
    subst (λ (c : AbstractState). turns_left (thread - 1) c < turns_left (thread - 1) (abstraction u)) (sym is)
    (play_less (thread - 1) (abstraction u) lt (sym t.acts) (subst InOrder is t.order))
