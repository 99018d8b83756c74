-- What is said of teams, and of a desk that can close its domain.
use Rattle.std.specs.Prelude.{◌≡◌, ℕ, ◌<◌, [], Option, None, Some}
use Rattle.control_word.specs.declared.refusal.Refusal.{Refusal}
use Rattle.control_word.specs.declared.shape.Shape.{Shape}
use Rattle.control_word.specs.Histories.{IsLegal}
use Rattle.control_block.specs.Census.{CensusNow, TellsAll}
use Rattle.control_block.specs.Desks.{DeskNow, bag_of, endings_of, state_of}
use Rattle.control_block.specs.Own.{IsSole}
use Rattle.control_block.specs.Rule.{opening_of}

-- so many workers had a table: all that were asked for, or fewer and why
abbrev pub IsManned : ℕ → ℕ → Option Refusal → Type 0
IsManned asked had None = had ≡ asked
IsManned asked had (Some why) = had < asked

module _ {V : Type 0} where
  -- A desk of a domain of this shape can close it, with nothing left: it has the whole allowance, so that every other
  -- one was joined and it has seen all, and it has no handle and nothing to end
  pub record CanClose (last : DeskNow V) (shape : Shape) : Type 0 where
    pub of : last.shape ≡ shape
    pub sole : IsSole last
    pub legal : IsLegal (opening_of shape) last.seen
    pub bare : (bag_of last ≡ []) × (last.held ≡ 0) × (endings_of last ≡ 0)

  -- such a desk closed its domain, and the census tells of all blocks
  pub record IsClosed (last : DeskNow V) (shape : Shape) (c : CensusNow) : Type 0 where
    pub by : CanClose last shape
    pub blocks : c.blocks ≡ shape.blocks
    pub tells : TellsAll (state_of last) shape.blocks c
