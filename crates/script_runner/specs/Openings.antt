-- What is said of a domain's first table, from where the domain is opened to where it can be closed.
use Rattle.std.specs.Prelude.{◌≡◌, ℕ, []}
use Rattle.control_block.specs.Desks.{Belongs, DeskNow, DomainNow, IsFirstDesk, endings_of}
use Rattle.shared_handle.specs.Piles.{Bears}
use Rattle.script_runner.specs.Parting.{IsNew, WindsUp}
use Rattle.script_runner.specs.Tables.{AllVacant, FitsSlots, TableNow, on_pile}
use Rattle.script_runner.specs.declared.table.parting.parts.Part.{Part}

module _ {V : Type 0} where
  -- what a domain's first table is made of: its desk, vacant slots, and an empty pile for what ends there
  pub record IsFirstPart (domain : DomainNow) (part : Part V) : Type 0 where
    pub begins : IsFirstDesk domain part.desk
    pub vacant : AllVacant part.slots.items
    pub bears : (d : DeskNow V) → Belongs d domain → endings_of d ≡ 0 → Bears domain d part.pile
    pub empty : on_pile part.pile ≡ []

  -- this was done with a domain's first table, which had so many slots; then all handles left it, and what was left to
  -- end did so
  pub record GoesOn (did : TableNow V → TableNow V → Type 0) (domain : DomainNow) (slots : ℕ) (last : DeskNow V)
      : Type 0 where
    pub first : TableNow V
    pub begins : IsFirstDesk domain first.desk
    pub new : IsNew slots first
    pub after : TableNow V
    pub done : did first after
    pub winds_up : WindsUp after last
    pub here : Belongs last domain
    pub none : FitsSlots last [] × (endings_of last ≡ 0)
