-- Runs, one step or one part longer.
use Rattle.std.proofs.Common.{◌≡◌, ℕ, zero, suc, ◌+◌, ◌-◌, ◌<◌, ◌≢◌, List, [], ◌∷◌, ◌++◌, map}
use Rattle.std.proofs.Common.{length, get_or, take, All, sym, refl, ap, ◌∙◌, subst, append_assoc}
use Rattle.std.proofs.Common.{arith}
use Rattle.step_core.proofs.Prelude.{AddsRun, Advances, All-append, All-cons, All-nil, Done}
use Rattle.step_core.proofs.Prelude.{IsOver, IsRun, IsStepOf, map_push, MovesOn, RunsToEnd}
use Rattle.step_core.proofs.Prelude.{Stepped, take_more, TraceStep, Waited, WorldState}
use Rattle.step_core.specs.Runs.{InOrder}

pub run_joined : (u m w : WorldState) (xs ys : List TraceStep) → IsRun u xs m → IsRun m ys w → IsRun u (xs ++ ys) w
run_joined u m w [] ys run on = subst (λ (z : WorldState). IsRun z ys w) run on
run_joined u m w (x ∷ xs) ys run on = (run.0, run.1, run_joined run.0 m w xs ys run.2 on)

pub run_more : (u m w : WorldState) (xs : List TraceStep) (x : TraceStep) → IsRun u xs m
    → Advances (x.actor - 1) m x.stepped w
    → IsRun u (xs ++ x ∷ []) w
run_more u m w xs x run advances = run_joined u m w xs (x ∷ []) run (w, advances, refl)

-- the number of a thread's actor
pub number_of : (n : ℕ) → (n + 1) - 1 ≡ n
number_of n = omega arith

-- no step of a longer list waits, where the last doesn't
pub moves_more : (xs ys : List TraceStep) (n : ℕ) (r : Stepped) → All MovesOn xs → r ≢ Waited
    → ys ≡ xs ++ record { actor = n; stepped = r } ∷ []
    → All MovesOn ys
moves_more xs ys n r all never is =
    let x : TraceStep = record { actor = n; stepped = r } in
    subst (All MovesOn) (sym is) (All-append MovesOn xs (x ∷ []) all (All-cons MovesOn x [] never (All-nil MovesOn)))

-- how far thread d has run alone
pub record IsOn (d : ℕ) (u : WorldState) (xs : List TraceStep) (m : WorldState) (ys : List TraceStep) : Type 0 where
  pub added : List TraceStep
  pub items : ys ≡ xs ++ added
  pub run : IsRun u added m
  pub alone : All (IsStepOf d) added
  pub moves : All MovesOn added
  pub actors : length m.frame_views ≡ length u.frame_views

pub on_more : (d : ℕ) (u m w : WorldState) (xs ys zs : List TraceStep) (r : Stepped) → IsOn d u xs m ys → Advances d m r w
    → length w.frame_views ≡ length m.frame_views → r ≢ Done → r ≢ Waited → zs ≡ ys ++ record { actor = d + 1; stepped = r } ∷ []
    → IsOn d u xs w zs
on_more d u m w xs ys zs r on advances actors ne never is =
    let x : TraceStep = record { actor = d + 1; stepped = r } in
    record {
      added = on.added ++ x ∷ [];
      items = is ∙ ap (λ (l : List TraceStep). l ++ x ∷ []) on.items ∙ append_assoc xs on.added (x ∷ []);
      run = run_more u m w on.added x on.run (subst (λ (n : ℕ). Advances n m r w) (sym (number_of d)) advances);
      alone =
          All-append (IsStepOf d) on.added (x ∷ []) on.alone
          (All-cons (IsStepOf d) x [] (refl, ne) (All-nil (IsStepOf d)));
      moves = moves_more on.added (on.added ++ x ∷ []) (d + 1) r on.moves never refl;
      actors = actors ∙ on.actors;
    }

pub on_end : (d : ℕ) (u m w : WorldState) (xs ys : List TraceStep) → IsOn d u xs m ys → w ≡ m → IsOver d m
    → AddsRun (RunsToEnd d) u xs w ys
on_end d u m w xs ys on same over =
    record {
      added = on.added;
      items = on.items;
      run = record {
        run = subst (λ (z : WorldState). IsRun u on.added z) (sym same) on.run;
        alone = on.alone;
        over = subst (λ (z : WorldState). IsOver d z) (sym same) over;
      };
      moves = on.moves;
    }

-- the runs of threads in order are one run
in_order : (R : ℕ → WorldState → List TraceStep → WorldState → Type 0)
    → ((d : ℕ) (m w : WorldState) (ys : List TraceStep) → R d m ys w → IsRun m ys w)
    → (n : ℕ) (u u' : WorldState) (xs : List TraceStep)
    → InOrder R n u xs u' → IsRun u xs u'
in_order R each zero u u' xs runs = subst (λ (l : List TraceStep). IsRun u l u') (sym runs.0) runs.1
in_order R each (suc n) u u' xs runs =
    subst (λ (l : List TraceStep). IsRun u l u') (sym runs.3)
    (run_joined u runs.2 u' runs.0 runs.1 (in_order R each n u runs.2 runs.0 runs.4) (each n runs.2 u' runs.1 runs.5))

pub whole : (R : ℕ → WorldState → List TraceStep → WorldState → Type 0)
    → ((d : ℕ) (m w : WorldState) (ys : List TraceStep) → R d m ys w → IsRun m ys w)
    → (n : ℕ) (u m u' : WorldState) (xs ys : List TraceStep)
    → IsRun u xs m → AddsRun (InOrder R n) m xs u' ys → IsRun u ys u'
whole R each n u m u' xs ys run adds =
    subst (λ (l : List TraceStep). IsRun u l u') (sym adds.items)
    (run_joined u m u' xs adds.added run (in_order R each n m u' adds.added adds.run))

-- so many threads ran in this way, and then the next
pub adds_more : (R : ℕ → WorldState → List TraceStep → WorldState → Type 0) (n : ℕ) (u m u' : WorldState) (xs ys zs : List TraceStep)
    → AddsRun (InOrder R n) u xs m ys → AddsRun (R n) m ys u' zs → AddsRun (InOrder R (n + 1)) u xs u' zs
adds_more R n u m u' xs ys zs a b =
    record {
      added = a.added ++ b.added;
      items = b.items ∙ ap (λ (l : List TraceStep). l ++ b.added) a.items ∙ append_assoc xs a.added b.added;
      run =
          subst (λ (k : ℕ). InOrder R k u (a.added ++ b.added) u') (suc_more n)
          (a.added, b.added, m, refl, a.run, b.run);
      moves = All-append MovesOn a.added b.added a.moves b.moves;
    }
  where
    suc_more : (k : ℕ) → suc k ≡ k + 1
    suc_more k = omega arith

-- nor one of a list that a part made longer
pub moves_on : (R : WorldState → List TraceStep → WorldState → Type 0) (u u' : WorldState) (xs ys : List TraceStep) → All MovesOn xs
    → AddsRun R u xs u' ys → All MovesOn ys
moves_on R u u' xs ys all adds = subst (All MovesOn) (sym adds.items) (All-append MovesOn xs adds.added all adds.moves)

-- one more number, and its step
pub number_more : (xs ys : List TraceStep) (turns : List ℕ) (i : ℕ) (r : Stepped) → i < length turns
    → map (λ (x : TraceStep). x.actor) xs ≡ take i turns
    → ys ≡ xs ++ record { actor = get_or turns i 0; stepped = r } ∷ []
    → map (λ (x : TraceStep). x.actor) ys ≡ take (i + 1) turns
number_more xs ys turns i r lt e is =
    let x : TraceStep = record { actor = get_or turns i 0; stepped = r } in
    ap (map (λ (y : TraceStep). y.actor)) is ∙ map_push (λ (y : TraceStep). y.actor) xs x ∙
    ap (λ (l : List ℕ). l ++ get_or turns i 0 ∷ []) e
    ∙ sym (take_more turns i 0 lt)
