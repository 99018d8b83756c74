-- Scripts, and the programs that they are.
use Rattle.std.specs.Prelude.{◌≡◌, ℕ, ◌-◌, ◌≤◌, List, All, get_or, length, map}
use Rattle.control_word.specs.declared.shape.Shape.{Shape}
use Rattle.control_word.specs.declared.model.handle.Kind.{Kind}
use Rattle.step_threads.specs.Programs.{AllHaveCells, Part, IsProgram, call_count}
use Rattle.step_threads.specs.declared.programs.call.Name.{Name}
use Rattle.script_text.specs.Names.{NameList, name_text}
use Rattle.script_text.specs.Versions.{as_two, blocks_in, most_threads}
use Rattle.script_text.specs.Drafts.{ScriptView, Section, no_section}
use Rattle.script_text.specs.Grammar.{ReadsAs}
use Rattle.script_text.specs.Canonical.{canonical}

-- the kinds of names, by their numbers
abbrev pub kinds_in : NameList → List Kind
kinds_in names = map (λ name. name.1) names

-- what an actor has of a thread
abbrev pub part_in : Section → Part
part_in section = record { kinds = kinds_in section.names; calls = section.calls }

-- the program of threads
abbrev pub program_in : List Section → List Part
program_in threads = map part_in threads

-- how one of these threads, by its number from 1, spells a name of its own; nothing where there is none
abbrev pub spelling : List Section → ℕ → Name → List ℕ
spelling threads thread name = name_text (get_or threads (thread - 1) no_section).names name

-- how many statements the threads have
abbrev pub statement_count : List Section → ℕ
statement_count threads = call_count (program_in threads)

-- a shape with the cells that texts name, 128 of each kind
abbrev pub HasTextCells : Shape → Type 0
HasTextCells shape = (128 ≤ shape.shared_cells) × (128 ≤ shape.weak_cells)

-- the same script in version 2
abbrev pub converted : ScriptView → ScriptView
converted script = record { version = as_two script.version; threads = script.threads }

-- a script that some text spells, with the number of its statements
pub record IsScript (script : ScriptView) (count : ℕ) : Type 0 where
  pub reads : ReadsAs (canonical script) script
  pub converts : ReadsAs (canonical (converted script)) (converted script)
  pub counted : count ≡ statement_count script.threads
  pub threads : length script.threads ≤ most_threads script.version
  pub few : length script.threads ≤ 64
  pub some_block : 64 ≤ blocks_in script.version
  pub blocks : blocks_in script.version ≤ 65535
  pub program : IsProgram (program_in script.threads)
  pub cells : (shape : Shape) → HasTextCells shape
      → All (AllHaveCells shape) (program_in script.threads)
