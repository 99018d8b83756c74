-- A handle by its parts.
use Rattle.std.specs.Prelude.{◌≡◌, Option}
use Rattle.control_word.specs.declared.model.handle.Kind.{Kind}
use Rattle.control_word.specs.declared.model.handle.Kind.TheVariants as kind
use Rattle.control_word.specs.declared.place.Block.{Block}
use Rattle.control_word.specs.declared.place.Place.{Place}
use Rattle.control_block.specs.declared.cell_calls.Content.{Content}
use Rattle.control_block.specs.declared.handles.Held.{Held}
use Rattle.control_block.specs.declared.handles.Held.TheVariants.{Owner, Weak}

abbrev pub kind_of_held : Held → Kind
kind_of_held (Owner h) = kind.Owner
kind_of_held (Weak w) = kind.Weak

-- the block of what it owns, or is on
abbrev pub block_of_held : Held → Option Block
block_of_held (Owner h) = h.block
block_of_held (Weak w) = w.block

-- where it points
abbrev pub place_of_held : Held → Option Place
place_of_held (Owner h) = h.place
place_of_held (Weak w) = w.place

-- what a cell sees of it
abbrev pub IsContent : Held → Content → Type 0
IsContent h x = (kind_of_held h ≡ x.kind) × (block_of_held h ≡ x.word.block)
    × (place_of_held h ≡ x.word.place)
