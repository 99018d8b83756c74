-- What a cell lends.
use Rattle.std.specs.Prelude.{Option, Some}
use denote.RattleType.{RattleType}
use Rattle.std.specs.Borrow.{Fml, Lends, MutBor}
use Rattle.std.specs.declared.alloc.Allocator.{Ghosts}
use Rattle.slot_arena.specs.declared.cell.RawCell.{RawCell}
use Rattle.slot_arena.specs.contracts.cell.RawCell.{the_row}
use Rattle.slot_arena.specs.contracts.value_cell.ValueCell.{the_row as value_cell_row}

-- the cell with this value in it
abbrev pub with_value : {X Z : Type 0} → RawCell X Z → X → RawCell X Z
with_value c w = record { at = c.at; alloc = c.alloc; held = Some w }

-- once the borrow of the value ends, the cell has what was last written through it
abbrev pub lends_value : (R Z : RattleType) (g : Ghosts Z.Denot) → MutBor (RawCell R.Denot Z.Denot)
    → MutBor R.Denot → Fml
lends_value R Z g c r = Lends (the_row R Z g) R c r (with_value c.now)

-- the same of a cell that is seen as its value
abbrev pub LendsContent : (R : RattleType) → MutBor (Option R.Denot) → MutBor R.Denot → Fml
LendsContent R c r = Lends (value_cell_row R) R c r Some
