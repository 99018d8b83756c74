-- Parts of programs whose calls move no block to the shelf or from it. All of it is own.
use Rattle.std.specs.Prelude.{All, length}
use Rattle.script_runner.specs.Kinds.{AllSuit, first_stance}
use Rattle.step_threads.specs.Acts.{tasks_from}
use Rattle.step_threads.specs.Programs.{Part}
use Rattle.step_threads.specs.declared.programs.call.Call.TheVariants.{Shelve, Unshelve}
use Rattle.step_threads.specs.declared.programs.call.Call.{Call}

-- a call that moves no block to the shelf or from it
abbrev pub IsNoShelf : Call → Type 0
IsNoShelf (Shelve n) = ⊥
IsNoShelf (Unshelve block) = ⊥
IsNoShelf _ = Unit {0}

-- a part all of whose calls are such
abbrev pub IsUnshelved : Part → Type 0
IsUnshelved part = All IsNoShelf part.calls

-- all tasks of its thread suit the part's names
abbrev pub IsSuited : Part → Type 0
IsSuited part = AllSuit part.kinds (first_stance part.kinds) (tasks_from 1 part.calls (length part.kinds))
