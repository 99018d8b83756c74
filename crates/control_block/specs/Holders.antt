-- Who holds what is left of a domain. All of it is own.
use Rattle.std.specs.Prelude.{◌≡◌, ℕ, zero, suc, ◌+◌, ◌%◌, ◌<◌, ◌==◌, cond, List, []}
use Rattle.std.specs.Prelude.{◌∷◌, ◌++◌, length}
use Rattle.std.specs.Prelude.{slice_index}
use Rattle.std.specs.List.{filter}
use Rattle.control_word.specs.Layout.{site_place}
use Rattle.control_word.specs.Handles.{rank, same_kind}
use Rattle.control_word.specs.State.{State, count, kind_of_free, kind_of_member, tally, weak}
use Rattle.control_word.specs.Words.{blocks_of}
use Rattle.control_word.specs.declared.model.handle.NumberedHandle.{NumberedHandle}
use Rattle.control_word.specs.declared.model.handle.Kind.{Kind}
use Rattle.control_word.specs.declared.model.handle.Kind.TheVariants.{Owner, Weak}
use Rattle.control_block.specs.Census.{CensusNow, HasBlock}
use Rattle.control_block.specs.Desks.{DeskNow, bag_of, latest_of, state_of}
use Rattle.control_block.specs.declared.cell_calls.CellAt.{CellAt}
use Rattle.control_word.specs.declared.site.Site.{Site}
use Rattle.control_word.specs.declared.site.Site.TheVariants.{Free, Member}
use Rattle.control_word.specs.Packing.{owned_in}

-- the block of the object that a cell holds a handle on, or 0: as the words have it, and as the state has it
abbrev pub owned_at : CensusNow → Site → ℕ
owned_at c x = owned_in (slice_index c.words (site_place c.blocks x))

abbrev pub owned_by : State → NumberedHandle → ℕ
owned_by s h = rank (blocks_of s) h

abbrev pub frees_in : CensusNow → ℕ
frees_in c = c.shared_cells + c.weak_cells

-- the cell is one of the domain's
abbrev pub IsCellOf : CensusNow → Site → Type 0
IsCellOf c (Free n) = n < frees_in c
IsCellOf c (Member b m) = HasBlock c b.0 × (m < c.members)

abbrev pub free_cell : CensusNow → ℕ → CellAt
free_cell c n = record { site = Free n; kind = kind_of_free c.shared_cells n }

abbrev pub member_cell : CensusNow → ℕ → ℕ → CellAt
member_cell c b m = record { site = Member (record { 0 = b }) m; kind = kind_of_member c.owners m }

-- the cell, where it holds a handle on the object in block b
abbrev pub if_holds : CensusNow → ℕ → CellAt → List CellAt
if_holds c b x = cond (owned_at c x.site == b) (x ∷ []) []

-- of the first n free cells those that hold such a handle, of the first members of block n, of all of its members, and
-- of those of the first n blocks
abbrev pub free_holders : CensusNow → ℕ → ℕ → List CellAt
free_holders c b zero = []
free_holders c b (suc n) = free_holders c b n ++ if_holds c b (free_cell c n)

abbrev pub some_members : CensusNow → ℕ → ℕ → ℕ → List CellAt
some_members c b n zero = []
some_members c b n (suc m) = some_members c b n m ++ if_holds c b (member_cell c n m)

abbrev pub block_holders : CensusNow → ℕ → ℕ → List CellAt
block_holders c b n = some_members c b n c.members

abbrev pub member_holders : CensusNow → ℕ → ℕ → List CellAt
member_holders c b zero = []
member_holders c b (suc n) = member_holders c b n ++ block_holders c b (suc n)

-- all cells that hold a handle on the object in block b: the free ones, and then the members by block
abbrev pub holders_of : CensusNow → ℕ → List CellAt
holders_of c b = free_holders c b (frees_in c) ++ member_holders c b c.blocks

-- how many of the cells are of this kind
abbrev pub many_of : Kind → List CellAt → ℕ
many_of k l = length (filter (λ x. same_kind k x.kind) l)

-- the cells hold what they hold by the state
pub record TellsCells (s : State) (c : CensusNow) : Type 0 where
  pub frees : (n : ℕ) → n < frees_in c → owned_at c (Free n) ≡ owned_by s (s.cell n)
  pub members : (b m : ℕ) → HasBlock c b → m < c.members
      → owned_at c (Member (record { 0 = b }) m) ≡ owned_by s ((s.object (s.latest b)).member m)

-- each handle that counts is in one of the cells, or the desk had it still
pub record TellsHolders {V : Type 0} (d : DeskNow V) (b : ℕ) (c : CensusNow) : Type 0 where
  pub owners : count (state_of d) (latest_of d b) ≡ many_of Owner (holders_of c b) + tally Owner b (bag_of d)
  pub weaks : weak (state_of d) (latest_of d b) ≡ many_of Weak (holders_of c b) + tally Weak b (bag_of d)
