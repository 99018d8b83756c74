-- Rows that are recorded as acts come. All of it is own.
use Rattle.std.specs.Prelude.{◌≡◌, ℕ, ◌+◌, ◌-◌, ◌≤◌, ◌++◌, List, [], ◌∷◌, length, map, replicate}
use Rattle.run_picture.specs.declared.picture.Row.{Row}
use Rattle.step_core.specs.declared.trace.TraceStep.{TraceStep}
use Rattle.step_core.specs.Following.{said_by}
use Rattle.step_core.specs.Worlds.{Advances, WorldState, abstraction}
use Rattle.step_threads.specs.AbstractStates.{AbstractState, frame_of, next}
use Rattle.script_text.specs.Traces.{Item, TakesTurn, in_order}
use Rattle.script_stepper.specs.Running.{HasRun, heard}
use Rattle.script_picture.specs.declared.part.Part.{Part}
use Rattle.script_picture.specs.declared.recording.Rows.{Rows}
use Rattle.script_picture.specs.declared.recording.Source.{Source}
use Rattle.script_picture.specs.Acts.{AreRows, Seen, acts_in, seen_in}
use Rattle.script_picture.specs.Pointers.{HasCells}

-- these acts came, from the first on: they were counted until one was behind the part, and the rows
-- are the part's
pub record IsRecorded (part : Part) (acts : ℕ) (list : List Row) (seen : List Seen) : Type 0 where
  pub few : acts ≤ part.last + 1
  pub most : acts ≤ length seen
  pub all : acts ≤ part.last → acts ≡ length seen
  pub rows : AreRows (acts_in part 1 seen) list

abbrev pub RowsAre : Rows → List Seen → Type 0
RowsAre r seen = IsRecorded r.part r.acts r.list.items seen

-- the world is as large as these rows take it to be
pub record Fits (source : Source) (u : WorldState) : Type 0 where
  pub blocks : source.blocks ≡ u.ghost_state.extent.shape.blocks
  pub cells : HasCells u.ghost_state

-- these acts came too
pub record Adds (added : List Seen) (r r' : Rows) : Type 0 where
  pub part : r'.part ≡ r.part
  pub blocks : r'.source.blocks ≡ r.source.blocks
  pub adds : (seen : List Seen) → RowsAre r seen → RowsAre r' (seen ++ added)

-- one turn of each of these threads, in order: what each said, and the state after it
abbrev pub Sees : List ℕ → AbstractState → List Seen → AbstractState → Type 0
Sees [] c seen c' = (seen ≡ []) × (c' ≡ c)
Sees (thread ∷ turns) c seen c' =
    (items : List Item) × (later : List Seen) × (m : AbstractState)
    × TakesTurn thread c (next (frame_of c (thread - 1))) items m × Sees turns m later c'
    × (seen ≡ map (seen_in m) items ++ later)

-- the world took these turns, and what they said came, with the state after each
pub record HasTaken (turns : List ℕ) (u u' : WorldState) (r r' : Rows) : Type 0 where
  pub text : List ℕ
  pub run : HasRun turns u u' [] text
  pub seen : List Seen
  pub sees : Sees turns (abstraction u) seen (abstraction u')
  pub adds : Adds seen r r'

-- so it did by some turns of one thread
abbrev pub TakesAlone : ℕ → WorldState → WorldState → Rows → Rows → Type 0
TakesAlone thread u u' r r' = (n : ℕ) × HasTaken (replicate n thread) u u' r r'

-- and by these turns, and some more of each thread, in number order, to its end
pub record TakesOut (turns : List ℕ) (u u' : WorldState) (r r' : Rows) : Type 0 where
  pub more : List ℕ
  pub each : length more ≡ length u.frame_views
  pub taken : HasTaken (turns ++ in_order 1 more) u u' r r'

-- what a step said, by its thread
abbrev pub step_items : TraceStep → List Item
step_items x = heard x.actor (said_by x.stepped)

-- the same with the state after it
abbrev pub step_seen : TraceStep → WorldState → List Seen
step_seen x u = map (seen_in (abstraction u)) (step_items x)

-- these steps, one after another: what each said, and the state after it
abbrev pub SeesSteps : WorldState → List TraceStep → List Seen → WorldState → Type 0
SeesSteps u [] seen u' = (seen ≡ []) × (u' ≡ u)
SeesSteps u (x ∷ steps) seen u' =
    (later : List Seen) × (m : WorldState) × Advances (x.actor - 1) u x.stepped m
    × SeesSteps m steps later u' × (seen ≡ step_seen x m ++ later)
