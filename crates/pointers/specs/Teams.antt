-- What a team's desks need of a domain.
use Rattle.std.specs.Prelude.{◌≡◌, ℕ, ◌+◌, ◌-◌, ◌*◌, ◌/◌, ◌<◌, ◌≤◌, min, max}
use Rattle.control_word.specs.Layout.{IsWithinLimits}
use Rattle.control_word.specs.Limits.{most_allowance, most_blocks, most_free_cells, most_members, most_number}
use Rattle.control_word.specs.declared.shape.Shape.{Shape}
use Rattle.pointers.specs.declared.program.not_run.NotRun.{NotRun}
use Rattle.pointers.specs.declared.program.not_run.NotRun.TheVariants.{Large, Memory, Small}
use Rattle.pointers.specs.declared.program.not_run.Number.{Number}
use Rattle.pointers.specs.declared.program.not_run.Number.TheVariants.{
  Allowance,
  Blocks,
  Owners,
  SharedCells,
  WeakCells,
  Weaks,
}
use Rattle.pointers.specs.declared.program.team.Team.{Team}

-- so many handles: for each worker its pointers and two more, and one for the first desk
abbrev pub handles_of : Team → ℕ
handles_of t = t.workers * (t.pointers + 2) + 1

-- a domain may have the shape, and has room for the team
pub record Fits (shape : Shape) (t : Team) : Type 0 where
  pub within : IsWithinLimits shape
  pub room : handles_of t ≤ shape.allowance

abbrev pub number_of : Shape → Number → ℕ
number_of s Blocks = s.blocks
number_of s Owners = s.owners
number_of s Weaks = s.weaks
number_of s SharedCells = s.shared_cells
number_of s WeakCells = s.weak_cells
number_of s Allowance = s.allowance

-- what a number must be at least
abbrev pub least_of : Team → Number → ℕ
least_of t Blocks = 1
least_of t Owners = 2
least_of t Weaks = 1
least_of t Allowance = handles_of t
least_of t _ = 0

-- so many handles may be on one block besides those in members
abbrev pub other_handles : Shape → ℕ
other_handles s = 2 * s.allowance + (s.shared_cells + s.weak_cells)

-- and may be at most: of blocks, what leaves room for the funds of all handles
abbrev pub most_of : Shape → Number → ℕ
most_of s Blocks = min most_blocks ((most_number - other_handles s) / max s.owners s.weaks)
most_of s Owners = most_members - 1
most_of s Weaks = most_members - s.owners
most_of s SharedCells = most_free_cells
most_of s WeakCells = most_free_cells - s.shared_cells
most_of s Allowance = most_allowance

-- the number is below a limit that it must reach, or above the limit
abbrev pub IsMisfit : Shape → Team → NotRun → Type 0
IsMisfit s t (Small l) = (l.is ≡ number_of s l.number) × (l.is < l.limit) × (l.limit ≤ least_of t l.number)
IsMisfit s t (Large l) = (l.is ≡ number_of s l.number) × (l.limit < l.is) × (l.limit ≡ most_of s l.number)
IsMisfit s t Memory = ⊥
