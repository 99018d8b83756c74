-- What is true of a desk within a call, while handles are in hand that no claim is on.
use Rattle.std.specs.Prelude.{◌≡◌, ℕ, List, ◌++◌, slice_get, Option, None, Some}
use Rattle.control_block.specs.Desks.{DeskNow, allowance_of}
use Rattle.control_word.specs.Histories.{IsLegal}
use Rattle.control_block.specs.Rule.{opening_of}
use Rattle.control_block.specs.Parting.{HoldsAll}
use Rattle.control_block.specs.declared.handles.Held.{Held}
use Rattle.shared_handle.specs.Piles.{Bears}
use Rattle.shared_handle.specs.declared.pile.Pile.{Pile}
use Rattle.pointers.specs.Known.{AllLive, GoesOn, Lives, block_of, known_now, living, place_of}
use Rattle.pointers.specs.Whole.{domain_of}
use Rattle.pointers.specs.declared.known.Known.{Known}

-- what an option has, seen by a function
abbrev pub seen_by : {A B : Type 0} → (A → B) → Option A → Option B
seen_by f None = None
seen_by f (Some a) = Some (f a)

-- the handle is empty, with a null place
abbrev pub IsEmptyHandle : Held → Type 0
IsEmptyHandle h = (block_of h ≡ None) × (place_of h ≡ None)

module _ {V : Type 0} where
  -- as `IsWhole`, and the desk has the handles in hand too
  pub record IsWholeBeside (o d : DeskNow V) (p : Pile V) (hs : List Held) (cs : List (Option (Known V))) : Type 0 where
    pub opened : GoesOn o d
    pub legal : IsLegal (opening_of o.shape) d.seen
    pub allowance : allowance_of d ≡ allowance_of o
    pub bears : Bears (domain_of o) d p
    pub holds : HoldsAll d (hs ++ living cs)
    pub lives : AllLive o cs d

  -- the handle is that of what is known, or an empty one
  abbrev pub IsHandleOf : Option (Known V) → Held → Type 0
  IsHandleOf None h = IsEmptyHandle h
  IsHandleOf (Some c) h = c.handle ≡ h

  -- a handle that came is known as it is now, and an empty one isn't
  abbrev pub Arrives : Held → DeskNow V → Option (Known V) → Type 0
  Arrives h d None = IsEmptyHandle h
  Arrives h d (Some r) = r ≡ known_now h d

  -- the desk goes on from when the handle came, if there is one, which is of the object that it was of
  abbrev pub Stays : DeskNow V → Option (Known V) → DeskNow V → Type 0
  Stays o None d = GoesOn o d
  Stays o (Some c) d = Lives o c d

  -- what is known of the handle is claimed, if there is one
  abbrev pub IsClaimed : List (Option (Known V)) → Option (Known V) → Type 0
  IsClaimed cs None = Unit {0}
  IsClaimed cs (Some c) = (i : ℕ) × (slice_get cs i ≡ Some (Some c))
