-- Cells, as calls on them see them ([util.smartptr.atomic.shared], [util.smartptr.atomic.weak]).
use Rattle.std.specs.Prelude.{ℕ, Option, None, Some}
use denote.Ref.{Bor}
use Rattle.pointers.specs.Claims.{ClaimNow}
use Rattle.pointers.specs.declared.cells.location.Location.{Location}
use Rattle.pointers.specs.declared.cells.location.Location.TheVariants.{Free, Member}
use Rattle.pointers.specs.declared.known.Known.{Known}

-- a cell: a free one, by its number, or a member of what the owner is of, by its number among those of its kind
abbrev pub Site : Type 0 → Type 0
Site V = Location (Known V)

module _ {V : Type 0} where
  -- the same of a claim that is borrowed
  abbrev pub site_by : Location (Bor (ClaimNow V)) → Site V
  site_by (Free n) = Free n
  site_by (Member c n) = Member c.now.known n

  -- the owner whose object's member it is
  abbrev pub owner_of : Site V → Option (Known V)
  owner_of (Free n) = None
  owner_of (Member c n) = Some c

  -- a free cell
  abbrev pub free_site : ℕ → Site V
  free_site n = Free n

  -- a member, of those for owners or of the weak ones
  abbrev pub member_site : Known V → ℕ → Site V
  member_site c n = Member c n
