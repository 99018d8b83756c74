-- A step on the shelf changes stores and the shelf alone.
use Rattle.std.proofs.Common.{◌≡◌, ℕ, Bool, List, refl}
use Rattle.step_table.proofs.Prelude.{Block, ghost_after_step, GhostState, Miss, model_state}
use Rattle.step_table.proofs.Prelude.{OnShelf, ShelfStep, Shelve, Unshelve}
use Rattle.control_word.specs.State.{Stored}

pub shelf_framed : (v : GhostState) (d : ℕ) (b : Block) (x : ShelfStep)
    → (r : List Stored) × (f : ℕ → Bool) × (model_state (ghost_after_step v d (OnShelf b x)) ≡ record (model_state v) { stores = r; shelved = f })
shelf_framed v d b Shelve = (_, _, refl)
shelf_framed v d b Unshelve = (_, _, refl)
shelf_framed v d b Miss = ((model_state v).stores, (model_state v).shelved, refl)
