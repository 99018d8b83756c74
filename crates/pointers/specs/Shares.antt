-- What is said of a desk that gives parts to others and gets them back.
use Rattle.std.specs.Prelude.{◌≡◌, ℕ, ◌+◌, ◌*◌, ◌<◌, ◌≤◌, max, List, [], ◌∷◌}
use Rattle.control_block.specs.Desks.{DeskNow, allowance_of, endings_of, held_of}
use Rattle.control_block.specs.Parting.{JoinsWith, SplitsOff}

module _ {V : Type 0} where
  -- the desk has so many handles for each of so many workers, and keeps an allowance for its own, 1 at least
  pub record HasShares (d : DeskNow V) (each workers : ℕ) : Type 0 where
    pub some : 0 < each
    pub room : workers * each + max 1 (held_of d) ≤ allowance_of d

  -- a desk gave parts to new ones, one after the other, each with so many handles to come
  abbrev pub IsPartedInto : DeskNow V → ℕ → List (DeskNow V) → DeskNow V → Type 0
  IsPartedInto d a [] e = e ≡ d
  IsPartedInto d a (x ∷ xs) e = (m : DeskNow V) × SplitsOff d a 0 [] m x × IsPartedInto m a xs e

  -- another desk was joined
  pub record Joins (d other e : DeskNow V) : Type 0 where
    pub desks : JoinsWith d other e
    pub allowance : allowance_of e ≡ allowance_of d + allowance_of other
    pub endings : endings_of e ≡ endings_of d + endings_of other

  -- these were, the last one first
  abbrev pub JoinsAll : DeskNow V → List (DeskNow V) → DeskNow V → Type 0
  JoinsAll d [] e = e ≡ d
  JoinsAll d (x ∷ xs) e = (m : DeskNow V) × JoinsAll d xs m × Joins m x e

  -- a desk gave such parts, and got them back as they were
  pub record GivesBack (d : DeskNow V) (each : ℕ) (e : DeskNow V) : Type 0 where
    pub lent : List (DeskNow V)
    pub between : DeskNow V
    pub parts : IsPartedInto d each lent between
    pub joins : JoinsAll between lent e
