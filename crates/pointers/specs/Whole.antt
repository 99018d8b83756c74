-- What is true of a desk, its pile and its claims between any two calls.
use Rattle.std.specs.Prelude.{◌≡◌, List, Option}
use Rattle.control_block.specs.Desks.{DeskNow, DomainNow, allowance_of}
use Rattle.control_word.specs.Histories.{IsLegal}
use Rattle.control_block.specs.Rule.{opening_of}
use Rattle.control_block.specs.Parting.{HoldsAll}
use Rattle.shared_handle.specs.Piles.{Bears}
use Rattle.shared_handle.specs.declared.endings.Ending.{Ending}
use Rattle.shared_handle.specs.declared.pile.Pile.{Pile}
use Rattle.pointers.specs.Known.{AllLive, GoesOn, living}
use Rattle.pointers.specs.declared.known.Known.{Known}

-- the domain of a desk
abbrev pub domain_of : {V : Type 0} → DeskNow V → DomainNow
domain_of d = record { id = d.domain; shape = d.shape }

-- a desk, what is left to end with it, the last one on top, and what is known of the handles that it gave out
pub record ContextNow (V : Type 0) : Type 0 where
  pub desk : DeskNow V
  pub endings : List (Ending V)
  pub claims : List (Option (Known V))

module _ {V : Type 0} where
  -- the desk goes on legally from when it was opened, with the allowance that it had; the pile has what ends with it;
  -- it has all handles that were claimed and didn't leave, and each is of the object that it was of when it came
  pub record IsWhole (o d : DeskNow V) (p : Pile V) (cs : List (Option (Known V))) : Type 0 where
    pub opened : GoesOn o d
    pub legal : IsLegal (opening_of o.shape) d.seen
    pub allowance : allowance_of d ≡ allowance_of o
    pub bears : Bears (domain_of o) d p
    pub holds : HoldsAll d (living cs)
    pub lives : AllLive o cs d
