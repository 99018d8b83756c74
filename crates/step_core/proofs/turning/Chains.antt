-- Steps of a thread, one after another.
use Rattle.std.proofs.Common.{ℕ, List, [], ◌∷◌, refl, subst}
use Rattle.step_core.proofs.Prelude.{Advances, GoesTo, Stepped, StepsBy, WorldState}

pub one_step : (d : ℕ) (u v : WorldState) (r : Stepped) → Advances d u r v → GoesTo d u v
one_step d u v r advances = (r ∷ [], (v, advances, refl))

pub more_steps : (d : ℕ) (u v w : WorldState) → GoesTo d u v → GoesTo d v w → GoesTo d u w
more_steps d u v w goes on = joined goes.0 u goes.1
  where
    joined : (rs : List Stepped) (a : WorldState) → StepsBy d a rs v → GoesTo d a w
    joined [] a e = subst (λ (x : WorldState). GoesTo d x w) e on
    joined (r ∷ rs) a by = let i = joined rs by.0 by.2 in (r ∷ i.0, (by.0, by.1, i.1))
