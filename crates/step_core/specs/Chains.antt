-- Runs as chains of the world's own states. All of it is own.
use Rattle.std.specs.Prelude.{◌≡◌, ◌-◌, List, [], ◌∷◌}
use Rattle.step_core.specs.declared.trace.TraceStep.{TraceStep}
use Rattle.step_core.specs.WorldStates.{WorldState, TakesStep}

-- P holds before the first of these steps and after each of them, and R of each step
abbrev pub Through : (WorldState → Type 0) → (WorldState → TraceStep → WorldState → Type 0) → WorldState
    → List TraceStep → WorldState → Type 0
Through P R u [] u' = P u × (u' ≡ u)
Through P R u (x ∷ xs) u' =
    P u × ((m : WorldState) × TakesStep (x.actor - 1) u x.stepped m × R u x m × Through P R m xs u')
