-- Ranks by which vertices are known to end. All of it is own.
use Rattle.std.specs.Prelude.{◌≡◌, ◌≢◌, ℕ, ◌<◌, Bool, true, false, List}
use Rattle.owner_graph.specs.declared.holding.Holding.{Holding}
use Rattle.owner_graph.specs.Fed.{marked}
use Rattle.owner_graph.specs.Labels.{at}

-- where a handle is an owner that isn't to be weak, and on a vertex that doesn't stay, it is in one
-- that doesn't either, and whose rank is less
abbrev pub EndsLater : (Holding → Bool) → List Bool → List ℕ → Holding → Type 0
EndsLater gone stays ranks h =
    gone h ≡ false → h.is_owner ≡ true → marked stays h.to ≡ false
    → (marked stays h.from ≡ false) × (at ranks h.from < at ranks h.to)

-- each vertex that stays is fed, but for number 0
abbrev pub AllFed : List Bool → List Bool → Type 0
AllFed stays fed = (b : ℕ) → b ≢ 0 → marked stays b ≡ true → marked fed b ≡ true
