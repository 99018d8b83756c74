-- Threads that finish their calls.
use Rattle.std.proofs.Common.{◌≡◌, ℕ, ◌+◌, ◌-◌, Bool, true, false, not, ◌&&◌, ◌||◌, ◌≢◌, List, []}
use Rattle.std.proofs.Common.{◌∷◌, ◌++◌, length, is_some, ◌==◌, All, sym, refl, ap, ◌∙◌, subst}
use Rattle.std.proofs.Common.{append_assoc, append-nil, arith, ne_eqb}
use Rattle.step_core.proofs.Prelude
use Prelude.{abstraction, AddsRun, Advances, All-nil, Brought, call_under_way, CallsOn, Clearing}
use Prelude.{Done, Ending, eqb-false, false≢true, first_of, frame_of, FrameView, Giving, HasBegun}
use Prelude.{is_calling, is_owing, IsRun, Locking, Making, Matched, MovesOn, pending_call_of}
use Prelude.{PendingCall, Refill, Rest, Returning, Saw, Settles, Stepped, Steps, Task, TraceStep}
use Prelude.{Waited, WorldState}
use Rattle.step_core.specs.Runs.{FinishesCall, call_goes_on, next_statement}
use Rattle.step_core.proofs.runs.Chains.{moves_more}
use Rattle.step_core.proofs.runs.Measures.{at_end}

same_number : (d n : ℕ) → n ≡ d + 1 → n - 1 ≡ d
same_number d n e = omega (arith, e)

calls_run : (k d : ℕ) (u u' : WorldState) (xs : List TraceStep) → CallsOn k d u xs u' → IsRun u xs u'
calls_run k d u u' [] on = on
calls_run k d u u' (x ∷ xs) on = (
  on.2,
  subst (λ (n : ℕ). Advances n u x.stepped on.2) (sym (same_number d x.actor on.1)) on.3,
  calls_run k d on.2 u'
      xs on.4,
)

-- what a thread did to finish its call is a run
pub settled_run : (d : ℕ) (u u' : WorldState) (xs : List TraceStep) → Settles d u xs u' → IsRun u xs u'
settled_run d u u' xs settles = go (is_owing u d) refl
  where
    go : (b : Bool) → is_owing u d ≡ b → IsRun u xs u'
    go true is = calls_run (call_under_way d u) d u u' xs (settles.owing is).calls
    go false is = let n = settles.none is in subst (λ (l : List TraceStep). IsRun u l u') (sym n.0) n.1

calls_more : (k d : ℕ) (u m w : WorldState) (xs : List TraceStep) (r : Stepped) → CallsOn k d u xs m → is_calling k m d ≡ true
    → Advances d m r w → CallsOn k d u (xs ++ record { actor = d + 1; stepped = r } ∷ []) w
calls_more k d u m w [] r on goes advances =
    subst (λ (z : WorldState). CallsOn k d z (record { actor = d + 1; stepped = r } ∷ []) w) on (goes, refl, w, advances, refl)
calls_more k d u m w (x ∷ xs) r on goes advances = (on.0, on.1, on.2, on.3, calls_more k d on.2 m w xs r on.4 goes advances)

-- how far thread d has gone on with its call of statement k
pub record IsGoing (k d : ℕ) (u : WorldState) (xs : List TraceStep) (m : WorldState) (ys : List TraceStep) : Type 0 where
  pub added : List TraceStep
  pub items : ys ≡ xs ++ added
  pub calls : CallsOn k d u added m
  pub moves : All MovesOn added
  pub actors : length m.frame_views ≡ length u.frame_views

pub going_more : (k d : ℕ) (u m w : WorldState) (xs ys zs : List TraceStep) (r : Stepped) → IsGoing k d u xs m ys
    → is_calling k m d ≡ true → Advances d m r w
    → length w.frame_views ≡ length m.frame_views → r ≢ Waited → zs ≡ ys ++ record { actor = d + 1; stepped = r } ∷ []
    → IsGoing k d u xs w zs
going_more k d u m w xs ys zs r on goes advances actors never is =
    let x : TraceStep = record { actor = d + 1; stepped = r } in
    record {
      added = on.added ++ x ∷ [];
      items = is ∙ ap (λ (l : List TraceStep). l ++ x ∷ []) on.items ∙ append_assoc xs on.added (x ∷ []);
      calls = calls_more k d u m w on.added r on.calls goes advances;
      moves = moves_more on.added (on.added ++ x ∷ []) (d + 1) r on.moves never refl;
      actors = actors ∙ on.actors;
    }

-- a call that goes on isn't at the thread's end
pub calling_on : (k d : ℕ) (u u' : WorldState) (r : Stepped) → HasBegun d u → Steps d u r u' → is_calling k u d ≡ true → r ≢ Done
calling_on k d u u' r begun steps goes done =
    let over = (at_end d u u' begun (subst (λ (s : Stepped). Steps d u s u') done steps)).1 in
    let w = frame_of (abstraction u) d in
    false≢true (sym (ended (pending_call_of u d) over.pending_call ∙ done_by w.endings w.todo over.endings over.frame_view) ∙ goes)
  where
    ended : (h : PendingCall) → h ≡ Rest → call_goes_on k h (frame_of (abstraction u) d) ≡ call_goes_on k Rest (frame_of (abstraction u) d)
    ended h rests = ap (λ (x : PendingCall). call_goes_on k x (frame_of (abstraction u) d)) rests

    by_number : (b : Bool) → (k == 0) ≡ b → (not b && 0 == k) ≡ false
    by_number true e = refl
    by_number false e = ne_eqb 0 k (λ z. eqb-false k 0 e (sym z))

    done_by : (es : List Ending) (ts : List Task) → es ≡ [] → ts ≡ []
        → (is_some (first_of es) || (not (k == 0) && next_statement ts == k)) ≡ false
    done_by es ts none over =
        ap (λ (l : List Ending). is_some (first_of l) || (not (k == 0) && next_statement ts == k)) none
        ∙ ap (λ (l : List Task). not (k == 0) && next_statement l == k) over ∙ by_number (k == 0) refl

-- a thread whose call is done rests
pub rests : (k : ℕ) (h : PendingCall) (w : FrameView) → call_goes_on k h w ≡ false → h ≡ Rest
rests k Rest w e = refl
rests k (Making b i f) w e = absurd (false≢true (sym e))
rests k (Locking word) w e = absurd (false≢true (sym e))
rests k (Giving i kind x) w e = absurd (false≢true (sym e))
rests k Brought w e = absurd (false≢true (sym e))
rests k (Saw x) w e = absurd (false≢true (sym e))
rests k (Matched x) w e = absurd (false≢true (sym e))
rests k (Refill stage c x j) w e = absurd (false≢true (sym e))
rests k (Returning kind b funds j) w e = absurd (false≢true (sym e))
rests k Clearing w e = absurd (false≢true (sym e))

-- one thread more, which had a call to finish or none
pub settled_one : (d : ℕ) (u u' : WorldState) (xs ys : List TraceStep) → is_owing u d ≡ true
    → AddsRun (FinishesCall d) u xs u' ys
    → AddsRun (Settles d) u xs u' ys
settled_one d u u' xs ys is adds =
    record {
      added = adds.added;
      items = adds.items;
      run = record { owing = λ _. adds.run; none = λ no. absurd (false≢true (sym no ∙ is)) };
      moves = adds.moves;
    }

pub settled_none : (d : ℕ) (u : WorldState) (xs : List TraceStep) → is_owing u d ≡ false
    → AddsRun (Settles d) u xs u xs
settled_none d u xs is =
    record {
      added = [];
      items = sym (append-nil xs);
      run = record { owing = λ yes. absurd (false≢true (sym is ∙ yes)); none = λ _. (refl, refl) };
      moves = All-nil MovesOn;
    }
