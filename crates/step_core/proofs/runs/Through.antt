-- What holds all through a run.
use Rattle.std.proofs.Common.{◌≡◌, ℕ, ◌-◌, List, [], ◌∷◌, length, sym, ap, ◌∙◌, subst}
use Rattle.step_core.proofs.Prelude.{Advances, AllHold, AllRestIdle, Extent, IsRun, Performs}
use Rattle.step_core.proofs.Prelude.{TableInvariant, TraceStep, WorldState}
use Rattle.step_table.specs.GhostStates.{Seats}
use Rattle.step_core.specs.Chains.{Through}
use Rattle.step_core.specs.Headline.{AfterEach, OfEach}
use Rattle.step_core.proofs.runs.Locks.{tells_locks}
use Rattle.step_core.proofs.runs.Headline.{IsStep, counts, last_leaves, locks, values}
use Rattle.step_core.proofs.runs.Says.{tells}

-- what steps keep
pub record Goes (u : WorldState) : Type 0 where
  pub kept : TableInvariant u.ghost_state
  pub actors : length u.frame_views ≡ u.ghost_state.extent.actors
  pub hands : AllHold u
  pub idle : AllRestIdle u

after_each : (u : WorldState) → Goes u → AfterEach u
after_each u goes =
    record {
      counts = counts u goes.kept;
      once = values u goes.kept;
      hands = goes.hands;
      views = subst (λ (n : ℕ). Seats u.ghost_state.views n) (sym goes.actors) goes.kept.seats;
      idle = goes.idle;
    }

of_each : (u : WorldState) (x : TraceStep) (m : WorldState) → IsStep u x m → Performs (x.actor - 1) u x.stepped m → OfEach u x m
of_each u x m step performs =
    record {
      locks = locks u x m step;
      answers = tells_locks u x m performs;
      values = last_leaves u x m step;
      told = tells u x m step performs;
    }

goes_on : (u : WorldState) (x : TraceStep) (m : WorldState) → Goes u → Advances (x.actor - 1) u x.stepped m → Goes m
goes_on u x m goes a =
    record {
      kept = a.kept;
      actors = a.takes.actors ∙ goes.actors ∙ ap (λ (z : Extent). z.actors) (sym a.takes.extent);
      hands = a.takes.hands;
      idle = a.takes.idle;
    }

pub through : (u u' : WorldState) (xs : List TraceStep) → IsRun u xs u' → Goes u
    → Through AfterEach (λ m x w. OfEach m x w × Advances (x.actor - 1) m x.stepped w) u xs u'
through u u' [] run goes = (after_each u goes, run)
through u u' (x ∷ xs) run goes =
    let m = run.0 in
    let a = run.1 in
    let step : IsStep u x m = record { takes = a.takes; before = goes.kept; after = a.kept } in
    (after_each u goes, (m, a.takes, (of_each u x m step a.performs, a), through m u' xs run.2 (goes_on u x m goes a)))
