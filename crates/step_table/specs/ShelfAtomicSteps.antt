-- What a step on a shelf word is an event of, and what it makes of the word. All of it is own.
use Rattle.std.specs.Prelude.{ℕ, List, Option, Some, None, slice_index, slice_set, bit_and, bit_or}
use Rattle.std.specs.Prelude.{cond, nat_lt}
use Rattle.std.specs.Int.{bit_not, w64}
use Rattle.control_word.specs.declared.model.event.Event.{Event}
use Rattle.control_word.specs.declared.model.event.Event.TheVariants as event
use Rattle.control_word.specs.declared.place.Block.{Block}
use Rattle.control_word.specs.Layout.{bit_of}
use Rattle.control_word.specs.State.{Opening}
use Rattle.control_word.specs.Words.{shelf_spot}
use Rattle.step_table.specs.declared.memory.shelf.ShelfStep.{ShelfStep}
use Rattle.step_table.specs.declared.memory.shelf.ShelfStep.TheVariants.{Shelve, Unshelve, Miss}

-- a bit that was clear before it was cleared is no event
abbrev pub shelf_event : Block → ShelfStep → Option (Event (Unit {0}))
shelf_event b Shelve = Some (event.Shelve b)
shelf_event b Unshelve = Some (event.Unshelve b)
shelf_event b Miss = None

abbrev pub bit_moved : ShelfStep → ℕ → ℕ → ℕ
bit_moved Shelve b n = bit_or n (bit_of b)
bit_moved Unshelve b n = bit_and n (bit_not w64 (bit_of b))
bit_moved Miss b n = bit_and n (bit_not w64 (bit_of b))

-- a block that the table doesn't have has no bit
abbrev pub words_shelved : Opening → List ℕ → Block → ShelfStep → List ℕ
words_shelved z words b x =
    let k = shelf_spot z b.0 in
    cond (nat_lt z.blocks b.0) words (slice_set words k (bit_moved x b.0 (slice_index words k)))
