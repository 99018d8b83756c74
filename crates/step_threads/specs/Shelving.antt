-- What the acts on the shelf move. All of it is own.
use Rattle.std.specs.Prelude.{ℕ, ◌==◌, cond, min, List, [], ◌∷◌}
use Rattle.std.specs.Prelude.{Option, Some, None}
use Rattle.control_word.specs.State.{State, Stored}
use Rattle.step_table.specs.declared.memory.ghost_history.AtomicStep.{AtomicStep}
use Rattle.step_table.specs.declared.memory.ghost_history.AtomicStep.TheVariants.{OnShelf}
use Rattle.step_table.specs.declared.memory.shelf.ShelfStep.TheVariants as shelf
use Rattle.step_threads.specs.declared.programs.act.ShelfAct.{ShelfAct}
use Rattle.step_threads.specs.declared.programs.act.ShelfAct.TheVariants.{Shelve, Unshelve}

-- the least block in a desk's store
abbrev pub lesser : ℕ → Option ℕ → Option ℕ
lesser b None = Some b
lesser b (Some c) = Some (min b c)

abbrev pub least : ℕ → List Stored → Option ℕ
least d [] = None
least d (x ∷ xs) = cond (x.desk == d) (lesser x.block (least d xs)) (least d xs)

-- the block that an act on the shelf moves, if there is one
abbrev pub shelf_block : State → ℕ → ShelfAct → Option ℕ
shelf_block s d Shelve = least d s.stores
shelf_block s d (Unshelve b) = cond (s.shelved b.0) (Some b.0) None

-- what is done on the shelf, by that; a bit that was clear is cleared too
abbrev pub shelf_step : ShelfAct → Option ℕ → Option AtomicStep
shelf_step Shelve None = None
shelf_step Shelve (Some b) = Some (OnShelf (record { 0 = b }) shelf.Shelve)
shelf_step (Unshelve b) None = Some (OnShelf b shelf.Miss)
shelf_step (Unshelve b) (Some c) = Some (OnShelf b shelf.Unshelve)
