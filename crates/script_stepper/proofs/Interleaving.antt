-- The history of a run by single steps is an interleaving of its threads.
use Rattle.std.proofs.Common.{◌≡◌, ℕ, ◌+◌, ◌<◌, ◌≤◌, ◌≢◌, ◌⊎◌, List, [], ◌∷◌, map, length, get_or}
use Rattle.std.proofs.Common.{slice_get, Some, None, All, Option, sym, refl, ap, ◌∙◌, subst, inl}
use Rattle.std.proofs.Common.{inr, ⊎_elim, arith}
use Rattle.script_stepper.proofs.Prelude
use Prelude.{abstraction, ahead, ahead_of, All-cons, All-get_or, All-head, All-nil, All-tail}
use Prelude.{cases_lt, DoesNext, Ending, entry, Event, first_frame, frame_of, FrameView}
use Prelude.{get_or_past, GoesThrough, IsAtEnd, IsFineText, IsRun, leads, length-map, no_worth}
use Prelude.{Nothing, nowhere, onto, Opening, opening, Over, Part, program_in, put_on, same_Some}
use Prelude.{script_world_state, ScriptView, Task, TraceLabel, TraceStep, WorldState}
use Rattle.std.proofs.lemmas.List.{get_or-map}
use Rattle.std.proofs.lemmas.Option.{slice_get_cases}
use Rattle.control_word.specs.declared.model.event.Entry.{Entry}
use Rattle.step_threads.specs.Interleavings.{IsSplitOrJoin, Marked, said_on}
use Rattle.step_core.specs.Following.{Follows, lines_of}
use Rattle.script_stepper.specs.StepRuns.{IsInterleaving}

-- where there is no thread nothing is done
module _ (z : Opening) (h : List (Entry Nothing)) (d : ℕ) where
  none_done : (l : List (TraceLabel Nothing)) (w : FrameView) → GoesThrough no_worth z h d nowhere l w → (w ≡ nowhere)
      × All (λ (x : TraceLabel Nothing). x.desk ≢ d) l
  none_done [] w is = (is, All-nil (λ (x : TraceLabel Nothing). x.desk ≢ d))
  none_done (x ∷ l) w (inl other) =
      let rest = none_done l w other.1 in (rest.0, All-cons (λ (y : TraceLabel Nothing). y.desk ≢ d) x l other.0 rest.1)
  none_done (x ∷ l) w (inr own) =
      let m = own.1.0 in
      let rest = none_done l m own.1.1 in
      absurd (subst (λ (k : FrameView). DoesNext no_worth (leads z (onto h l)) k x w) rest.0 own.1.2)

-- so all that is done is some thread's
all_below : (n : ℕ) (l : List (TraceLabel Nothing)) → ((d : ℕ) → n ≤ d → All (λ (x : TraceLabel Nothing). x.desk ≢ d) l)
    → All (λ (x : TraceLabel Nothing). x.desk < n) l
all_below n [] none = All-nil (λ (x : TraceLabel Nothing). x.desk < n)
all_below n (x ∷ l) none =
    All-cons (λ (y : TraceLabel Nothing). y.desk < n) x l
    (elim (cases_lt x.desk n) [
      | inl lt ↦ lt
      | inr le ↦ absurd (All-head (λ (y : TraceLabel Nothing). y.desk ≢ x.desk) x l (none x.desk le) refl)
    ])
    (all_below n l (λ d le. All-tail (λ (y : TraceLabel Nothing). y.desk ≢ d) x l (none d le)))

abbrev IsOwn : ℕ → Entry Nothing → Type 0
IsOwn n e = ((0 ≤ e.desk) × (e.desk < 0 + n)) ⊎ IsSplitOrJoin e.event

all_own : (n : ℕ) (l : List (TraceLabel Nothing)) → All (λ (x : TraceLabel Nothing). x.desk < n) l → All (IsOwn n) (onto [] l)
all_own n [] below = All-nil (IsOwn n)
all_own n (x ∷ l) below =
    go x.event (All-head (λ (y : TraceLabel Nothing). y.desk < n) x l below)
    (all_own n l (All-tail (λ (y : TraceLabel Nothing). y.desk < n) x l below))
  where
    go : (e : Option (Event Nothing)) → x.desk < n → All (IsOwn n) (onto [] l) → All (IsOwn n) (put_on x.desk e (onto [] l))
    go None lt rest = rest
    go (Some e) lt rest = All-cons (IsOwn n) (entry x.desk e) (onto [] l) (inl (omega arith, omega (arith, lt))) rest

module _ (script : ScriptView) where
  abbrev parts : List Part
  parts = program_in script.threads

  begins : (i : ℕ) (part : Part) → slice_get parts i ≡ Some part → (i < length parts) ×
      (frame_of (abstraction (script_world_state script)) i ≡ first_frame part)
  begins i part e =
      ⊎_elim
      (λ (p : (x : Part) × (i < length parts) × (slice_get parts i ≡ Some x) × (get_or parts i x ≡ x)).
      let same : p.0 ≡ part = same_Some _ _ (sym p.2 ∙ e) in
      (p.1, get_or-map first_frame parts i p.0 nowhere p.1 ∙ ap first_frame (p.3 ∙ same)))
      (λ (q : (length parts ≤ i) × (slice_get parts i ≡ None)). absurd (some_none (sym e ∙ q.1)))
      (slice_get_cases parts i).1
    where
      some_none : Some part ≡ None → ⊥
      some_none q = cc

over_at : (u : WorldState) (d : ℕ) → IsAtEnd u → d < length u.frame_views → ahead (frame_of (abstraction u) d) ≡ Over
over_at u d at lt =
    let w = frame_of (abstraction u) d in
    let endings : w.endings ≡ [] = All-get_or (λ (k : FrameView). k.endings ≡ []) u.frame_views d nowhere lt at.endings in
    let todo : w.todo ≡ [] = All-get_or (λ (k : FrameView). k.todo ≡ []) u.frame_views d nowhere lt at.frame_views in
    ap (λ (es : List Ending). ahead_of w.slots es w.todo) endings ∙ ap (λ (ts : List Task). ahead_of w.slots [] ts) todo

run_actors : (u u' : WorldState) (xs : List TraceStep) → IsRun u xs u' → length u'.frame_views ≡ length u.frame_views
run_actors u u' [] run = ap (λ (m : WorldState). length m.frame_views) run
run_actors u u' (x ∷ xs) run = run_actors run.0 u' xs run.2 ∙ run.1.takes.actors

pub interleaves : (script : ScriptView) (turns text : List ℕ) (p : IsFineText script turns text)
    → IsInterleaving (program_in script.threads) p.steps p.last
interleaves script turns text p =
    let u = script_world_state script in
    let parts = program_in script.threads in
    let f : Follows u p.steps p.last = p.run.follows in
    let z = opening u.ghost_state.extent in
    let n = length-map parts first_frame in
    let m : length p.last.frame_views ≡ length (map first_frame parts) = run_actors u p.last p.steps p.run.run in
    let same : opening p.last.ghost_state.extent ≡ z = ap opening f.extent in
    let none : (d : ℕ) → length parts ≤ d → All (λ (x : TraceLabel Nothing). x.desk ≢ d) f.trace_labels =
    λ d le. (none_done z [] d f.trace_labels (frame_of (abstraction p.last) d)
    (subst (λ (w : FrameView). GoesThrough no_worth z [] d w f.trace_labels (frame_of (abstraction p.last) d))
    (get_or_past (map first_frame parts) d nowhere (omega (arith, le, n))) (f.each d))).1 in
    record {
      legal = p.run.kept.stands.legal;
      each = λ i part e.
          let b = begins script i part e in
          let here = b.0 in
          let mine : Marked no_worth z p.last.ghost_state.history i part (said_on i (lines_of p.steps)) = record {
            trace_labels = f.trace_labels;
            events = sym f.history;
            last = frame_of (abstraction p.last) i;
            goes = subst (λ (w : FrameView). GoesThrough no_worth z [] i w f.trace_labels (frame_of (abstraction p.last) i)) b.1 (f.each i);
            over = over_at p.last i p.run.over (omega (arith, here, m, n));
            says = ap (said_on i) f.says;
          } in
          let k : i ≡ 0 + i = omega arith in
          subst (λ (j : ℕ). Marked no_worth (opening p.last.ghost_state.extent) p.last.ghost_state.history j part (said_on j (lines_of p.steps))) k
          (subst (λ (q : Opening). Marked no_worth q p.last.ghost_state.history i part (said_on i (lines_of p.steps))) (sym same) mine);
      others = subst (All (IsOwn (length parts))) (sym f.history) (all_own (length parts) f.trace_labels (all_below (length parts) f.trace_labels none));
    }
