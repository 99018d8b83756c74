-- Programs, without where they lie in memory.
use Rattle.std.specs.Prelude.{◌≡◌, ℕ, ◌<◌, ◌≤◌, ◌==◌, Bool, false, List, [], ◌∷◌, Option}
use Rattle.std.specs.Prelude.{Some, None, All, IsTrue, is_some, length, map, sum_by, slice_get}
use Rattle.control_word.specs.declared.shape.Shape.{Shape}
use Rattle.control_word.specs.State.{kind_of_member}
use Rattle.step_threads.specs.declared.programs.call.Actor.{Actor}
use Rattle.step_threads.specs.declared.programs.call.Call.{Call}
use Rattle.step_threads.specs.declared.programs.call.Call.TheVariants.{Make, Empty, Reset, Copy, Count}
use Rattle.step_threads.specs.declared.programs.call.Call.TheVariants.{MakeThis, Null, Move, Alias, AliasNull, This}
use Rattle.step_threads.specs.declared.programs.call.Call.TheVariants.{WeakThis}
use Rattle.step_threads.specs.declared.programs.call.Call.TheVariants.{Read, Place, Same, Before}
use Rattle.step_threads.specs.declared.programs.call.Call.TheVariants.{Store, Exchange, Load, Compare, WeakCopy}
use Rattle.step_threads.specs.declared.programs.call.Call.TheVariants.{WeakEmpty}
use Rattle.step_threads.specs.declared.programs.call.Call.TheVariants.{WeakReset, Lock, Upgrade, WeakCount, Expired}
use Rattle.step_threads.specs.declared.programs.call.Call.TheVariants.{Holds, Shelve, Unshelve}
use Rattle.step_threads.specs.declared.programs.call.Call.TheVariants as call
use Rattle.step_threads.specs.declared.programs.call.CellName.{CellName}
use Rattle.step_threads.specs.declared.programs.call.CellName.TheVariants as cell
use Rattle.control_word.specs.declared.model.handle.Kind.{Kind}
use Rattle.control_word.specs.declared.model.handle.Kind.TheVariants.{Owner}
use Rattle.control_word.specs.declared.model.handle.Kind.TheVariants as kind
use Rattle.step_threads.specs.declared.programs.call.Name.{Name}
use Rattle.step_threads.specs.declared.programs.call.Program.{Program}

-- an actor's part of a program: the kinds of its names, and its calls in order
pub record Part : Type 0 where
  pub kinds : List Kind
  pub calls : List Call

abbrev pub part_of : Actor → Part
part_of actor = record { kinds = actor.kinds.items; calls = actor.calls.items }

abbrev pub parts_of : Program → List Part
parts_of program = map part_of program.actors.items

-- a name that a call has, and the kind that the call asks for, if it asks for one
abbrev pub Asked : Type 0
Asked = Name × Option Kind

abbrev pub owner_asked : Name → Asked
owner_asked name = (name, Some Owner)

abbrev pub weak_asked : Name → Asked
weak_asked name = (name, Some kind.Weak)

abbrev pub either : Name → Asked
either name = (name, None)

-- the kind of what a cell holds, and of the names whose values go into it ([util.smartptr.atomic.shared],
-- [util.smartptr.atomic.weak])
abbrev pub kind_at : CellName → Kind
kind_at (cell.Shared n) = Owner
kind_at (cell.Weak n) = kind.Weak
kind_at (cell.Member k m) = kind_of_member 2 m

-- a name of that kind
abbrev pub as_in : CellName → Name → Asked
as_in cell name = (name, Some (kind_at cell))

-- the cell is a member of what the name owns
abbrev pub is_member_of : CellName → Name → Bool
is_member_of (cell.Member k m) name = k.0 == name.0
is_member_of _ name = false

abbrev pub through : CellName → List Asked
through (cell.Member k m) = owner_asked k ∷ []
through _ = []

-- the names of a call
abbrev pub names_of : Call → List Asked
names_of (Make target fields) = owner_asked target ∷ []
names_of (MakeThis target fields) = owner_asked target ∷ []
names_of (Null target) = owner_asked target ∷ []
names_of (Empty target) = owner_asked target ∷ []
names_of (Reset name) = owner_asked name ∷ []
names_of (Copy target source) = owner_asked target ∷ owner_asked source ∷ []
names_of (Move target source) = owner_asked target ∷ owner_asked source ∷ []
names_of (Alias target source of field) = owner_asked target ∷ owner_asked source ∷ owner_asked of ∷ []
names_of (AliasNull target source) = owner_asked target ∷ owner_asked source ∷ []
names_of (Count name) = owner_asked name ∷ []
names_of (call.Weak target source) = weak_asked target ∷ owner_asked source ∷ []
names_of (WeakCopy target source) = weak_asked target ∷ weak_asked source ∷ []
names_of (WeakEmpty target) = weak_asked target ∷ []
names_of (WeakReset name) = weak_asked name ∷ []
names_of (Lock target source) = owner_asked target ∷ weak_asked source ∷ []
names_of (Upgrade target source) = owner_asked target ∷ weak_asked source ∷ []
names_of (WeakCount name) = weak_asked name ∷ []
names_of (Expired name) = weak_asked name ∷ []
names_of (This target source) = owner_asked target ∷ owner_asked source ∷ []
names_of (WeakThis target source) = weak_asked target ∷ owner_asked source ∷ []
names_of (Read name) = owner_asked name ∷ []
names_of (Place name) = owner_asked name ∷ []
names_of (Same first second) = owner_asked first ∷ owner_asked second ∷ []
names_of (Before first second) = either first ∷ either second ∷ []
names_of (Store cell source) = as_in cell source ∷ through cell
names_of (Exchange cell name) = as_in cell name ∷ through cell
names_of (Load target cell) = as_in cell target ∷ through cell
names_of (Compare cell expected desired weak) = as_in cell expected ∷ as_in cell desired ∷ through cell
names_of (Holds cell name) = as_in cell name ∷ through cell
names_of (Shelve n) = []
names_of (Unshelve block) = []

-- the cells of a call
abbrev pub cells_of : Call → List CellName
cells_of (Store cell source) = cell ∷ []
cells_of (Exchange cell name) = cell ∷ []
cells_of (Load target cell) = cell ∷ []
cells_of (Compare cell expected desired weak) = cell ∷ []
cells_of (Holds cell name) = cell ∷ []
cells_of _ = []

-- a shape has the cell, and an object three members
abbrev pub IsIn : Shape → CellName → Type 0
IsIn shape (cell.Shared n) = n < shape.shared_cells
IsIn shape (cell.Weak n) = n < shape.weak_cells
IsIn shape (cell.Member k m) = m < 3

-- it has each cell of a call, and of a part's calls
abbrev pub HasCells : Shape → Call → Type 0
HasCells shape call = All (IsIn shape) (cells_of call)

abbrev pub AllHaveCells : Shape → Part → Type 0
AllHaveCells shape part = All (HasCells shape) part.calls

-- a name isn't exchanged with a member of its own object
abbrev pub IsApartFromCell : Call → Type 0
IsApartFromCell (Exchange cell name) = is_member_of cell name ≡ false
IsApartFromCell _ = Unit {0}

abbrev pub asked_list : Option Asked → List Asked
asked_list None = []
asked_list (Some x) = x ∷ []

-- a name with this kind is there, or with any where none is asked for
abbrev pub IsNameFound : Option Kind → Option Kind → Type 0
IsNameFound None found = IsTrue (is_some found)
IsNameFound (Some kind) found = found ≡ Some kind

-- among names of these kinds the name is one, and of the kind that is asked for
abbrev pub IsDeclared : List Kind → Asked → Type 0
IsDeclared kinds asked = IsNameFound asked.1 (slice_get kinds asked.0.0)

-- each name of the call is declared, with the kind that the call asks for
abbrev pub IsWellNamed : List Kind → Call → Type 0
IsWellNamed kinds call = All (IsDeclared kinds) (names_of call)

-- a part with at most 32 names, whose calls are well named, and exchange no name with a member of its own object
pub record IsPart (part : Part) : Type 0 where
  pub few : length part.kinds ≤ 32
  pub named : All (IsWellNamed part.kinds) part.calls
  pub apart : All IsApartFromCell part.calls

-- how many calls the parts have together
abbrev pub call_count : List Part → ℕ
call_count parts = sum_by (λ part. length part.calls) parts

-- the parts of 1 to 64 actors, with at most 65,536 calls together
pub record IsProgram (parts : List Part) : Type 0 where
  pub some : 1 ≤ length parts
  pub actors : length parts ≤ 64
  pub calls : call_count parts ≤ 65536
  pub each : All IsPart parts
