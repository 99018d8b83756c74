-- What a thread may ask of its worker's table. All of it is own.
use Rattle.std.specs.Prelude.{ℕ, ◌<◌, List}
use Rattle.control_word.specs.declared.model.handle.Kind.{Kind}
use Rattle.control_word.specs.declared.model.handle.Kind.TheVariants.{Owner}
use Rattle.script_runner.specs.Tables as table
use Rattle.script_runner.specs.Kinds.{HasKind}
use Rattle.step_threads.specs.declared.programs.act.Question.{Question}
use Rattle.step_threads.specs.declared.programs.act.Question.TheVariants as question

-- the names that it is about come before the hand
abbrev pub AsksBelow : ℕ → Question → Type 0
AsksBelow hand (question.Place i) = i < hand
AsksBelow hand (question.Same i j) = (i < hand) × (j < hand)
AsksBelow hand (question.Before i j) = (i < hand) × (j < hand)

-- and have the handles that it needs: where one points only an owner tells
abbrev pub HasAsked : List table.Slot → Question → Type 0
HasAsked ss (question.Place i) = HasKind ss i Owner
HasAsked ss (question.Same i j) = HasKind ss i Owner × HasKind ss j Owner
HasAsked ss (question.Before i j) = ((k : Kind) × HasKind ss i k) × ((k : Kind) × HasKind ss j k)
