-- What all cells hold. All of it is own.
use Rattle.std.specs.Prelude.{All, ◌≡◌, ℕ, ◌+◌, ◌≤◌, not, List, [], ◌∷◌, ◌++◌, length}
use Rattle.std.specs.Prelude.{Bool, Option, Some, None, nat_lt}
use Rattle.std.specs.List.{filter, flat_map}
use Rattle.control_word.specs.declared.packed.counts.Counts.{Counts}
use Rattle.control_word.specs.declared.place.Block.{Block}
use Rattle.control_word.specs.declared.shape.Shape.{Shape}
use Rattle.control_word.specs.State.{State}
use Rattle.control_word.specs.declared.site.Site.{Site}
use Rattle.control_word.specs.declared.site.Site.TheVariants.{Free, Member}
use Rattle.step_table.specs.Cells.{target_of}
use Rattle.step_threads.specs.Stocks.{from}
use Rattle.step_core.specs.Totals.{census_of}
use Rattle.owner_graph.specs.declared.holding.Holding.{Holding}
use Rattle.owner_graph.specs.Owners.{IsAmong}
use Rattle.owner_graph.specs.Rows.{held_on}

-- how many free cells there are, the shared before the weak
abbrev pub free_cells : Shape → ℕ
free_cells shape = shape.shared_cells + shape.weak_cells

-- the cell holds an owner; the first so many free cells do
abbrev pub holds_owner : ℕ → Site → Bool
holds_owner shared (Free n) = nat_lt n shared
holds_owner shared (Member b m) = nat_lt m 2

-- the block in whose object the cell is; 0, which is no block, stands for the free cells
abbrev pub source : Site → ℕ
source (Free n) = 0
source (Member b m) = b.0

-- which of the cells there it is
abbrev pub slot : Site → ℕ
slot (Free n) = n
slot (Member b m) = m

-- a handle in a cell, on a block
abbrev pub holding : ℕ → Site → Block → Holding
holding shared c b = record {
  from = source c;
  to = b.0;
  slot = slot c;
  label = slot c;
  is_owner = holds_owner shared c;
}

-- what a cell holds, where it holds something
abbrev pub held_by : ℕ → Site → Option Block → List Holding
held_by shared c None = []
held_by shared c (Some b) = holding shared c b ∷ []

abbrev pub holdings_in : State → Site → List Holding
holdings_in s c = held_by s.shared c (target_of s c)

abbrev pub member : ℕ → ℕ → Site
member b m = Member (record { 0 = b }) m

-- what the members of an object hold: first, next and up. A vacant block has none
abbrev pub held_by_members : State → ℕ → Option Counts → List Holding
held_by_members s b None = []
held_by_members s b (Some counts) =
    holdings_in s (member b 0) ++ holdings_in s (member b 1) ++ holdings_in s (member b 2)

abbrev pub held_by_block : State → ℕ → List Holding
held_by_block s b = held_by_members s b (census_of s b)

abbrev pub held_by_free : State → ℕ → List Holding
held_by_free s n = holdings_in s (Free n)

-- what all cells hold: the free ones, the shared before the weak, and then the members by block
abbrev pub all_held : State → ℕ → List Holding
all_held s blocks = flat_map (held_by_free s) (from 0 s.cells) ++ flat_map (held_by_block s) (from 1 blocks)

-- the owners among handles, and the weak ones
abbrev pub owners_among : List Holding → List Holding
owners_among hs = filter (λ (h : Holding). h.is_owner) hs

abbrev pub weaks_among : List Holding → List Holding
weaks_among hs = filter (λ (h : Holding). not h.is_owner) hs

-- as many are listed on a block as its census counts, and none on a vacant one
abbrev pub AreCounted : List Holding → Option Counts → Type 0
AreCounted hs None = hs ≡ []
AreCounted hs (Some c) = (length (owners_among hs) ≡ c.owners) × (length (weaks_among hs) ≡ c.weaks)

-- on each of so many blocks
abbrev pub AllCounted : ℕ → State → List Holding → Type 0
AllCounted blocks s hs = (b : ℕ) → 1 ≤ b → b ≤ blocks → AreCounted (held_on hs b) (census_of s b)

-- what was added is so, if what was there is
abbrev pub AddsAmong : ℕ → List Holding → List Holding → Type 0
AddsAmong blocks old new = All (IsAmong blocks) old → All (IsAmong blocks) new
