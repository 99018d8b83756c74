-- Handles of a desk in slots, as tests have them: the desk holds all that lie there.
use Rattle.std.specs.Prelude.{◌≡◌, ℕ, ◌+◌, List, ◌∷◌, Option, Result, Ok, Err}
use Rattle.control_block.specs.Desks.{DeskNow, IsSameDesk, bag_of}
use Rattle.control_block.specs.HandleLists.{with_held}
use Rattle.control_block.specs.Parting.{HoldsAll}
use Rattle.control_block.specs.SlotLists.{handles_in}
use Rattle.control_block.specs.declared.handles.Held.{Held}
use Rattle.control_block.specs.declared.handles.Held.TheVariants as held
use Rattle.control_block.specs.declared.handles.Shared.{Shared}
use Rattle.atomic_cells.specs.declared.compared.Compared.{Compared}
use Rattle.atomic_cells.specs.declared.compared.Compared.TheVariants.{Differs, Swapped}

-- the desk holds what lies in the slots
abbrev pub HoldsSlots : DeskNow ℕ → List (Option Held) → Type 0
HoldsSlots d ss = HoldsAll d (handles_in ss)

-- and a handle beside it
abbrev pub HoldsBeside : DeskNow ℕ → Held → List (Option Held) → Type 0
HoldsBeside d h ss = HoldsAll d (h ∷ handles_in ss)

-- what came is held beside it, where a handle came
abbrev pub HoldsCame : {E : Type 0} → DeskNow ℕ → Result Held E → List (Option Held) → Type 0
HoldsCame d (Ok h) ss = HoldsBeside d h ss
HoldsCame d (Err why) ss = HoldsSlots d ss

-- no handle came or went
pub record Stays (d e : DeskNow ℕ) : Type 0 where
  pub desk : IsSameDesk d e
  pub bag : bag_of e ≡ bag_of d
  pub held : e.held ≡ d.held

-- a handle came, and nothing else
pub record Gains (d : DeskNow ℕ) (h : Held) (e : DeskNow ℕ) : Type 0 where
  pub desk : IsSameDesk d e
  pub bag : bag_of e ≡ with_held h (bag_of d)
  pub held : e.held ≡ d.held + 1

-- a handle came, or none
abbrev pub Comes : {E : Type 0} → DeskNow ℕ → Result Held E → DeskNow ℕ → Type 0
Comes d (Ok h) e = Gains d h e
Comes d (Err why) e = Stays d e

-- what a compare handed out is held, beside what lies in the slots
abbrev pub HoldsShared : DeskNow ℕ → Compared Shared → List (Option Held) → Type 0
HoldsShared d (Swapped old) ss = HoldsBeside d (held.Owner old) ss
HoldsShared d (Differs h desired) ss = HoldsAll d (held.Owner h ∷ held.Owner desired ∷ handles_in ss)
