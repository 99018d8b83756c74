-- Whole runs, turn by turn: whose acts come in which order, and what they say. All of it is own but the events, which
-- name their sections in the model.
use Rattle.std.specs.Prelude.{◌≡◌, ℕ, ◌+◌, ◌-◌, List, [], ◌∷◌, ◌++◌, length, replicate}
use Rattle.std.specs.Prelude.{Option, Some, None}
use Rattle.step_threads.specs.declared.programs.act.Task.{Task}
use Rattle.step_threads.specs.declared.said.Said.{Said}
use Rattle.step_threads.specs.AbstractStates.{AbstractState, next, frame_of}
use Rattle.step_core.specs.Turns.{ActsNow, Always}

-- what a thread said, with the thread's number, from 1
abbrev pub Item : Type 0
Item = ℕ × Said

-- a turn of a thread is its next act; at its end it does nothing
abbrev pub TakesTurn : ℕ → AbstractState → Option Task → List Item → AbstractState → Type 0
TakesTurn thread c None items c' = (items ≡ []) × (c' ≡ c)
TakesTurn thread c (Some t) items c' = (x : Said) × ActsNow Always (thread - 1) c t x c' × (items ≡ (thread, x) ∷ [])

-- one turn of each of these threads, in order
abbrev pub TakeTurns : List ℕ → AbstractState → List Item → AbstractState → Type 0
TakeTurns [] c items c' = (items ≡ []) × (c' ≡ c)
TakeTurns (thread ∷ turns) c items c' =
    (first later : List Item) × (m : AbstractState) × TakesTurn thread c (next (frame_of c (thread - 1))) first m
    × TakeTurns turns m later c' × (items ≡ first ++ later)

-- threads from this one on, one after the other, each as often as the list says
abbrev pub in_order : ℕ → List ℕ → List ℕ
in_order thread [] = []
in_order thread (n ∷ ns) = replicate n thread ++ in_order (thread + 1) ns

-- The given turns; then each thread runs alone to its end, in number order: in some number of turns, after which
-- nothing is left for it to do. This is what all of these turns say, and the last abstract state
pub record IsTrace (turns : List ℕ) (c : AbstractState) (items : List Item) (last : AbstractState) : Type 0 where
  pub more : List ℕ
  pub each : length more ≡ length c.frame_views
  pub takes : TakeTurns (turns ++ in_order 1 more) c items last
  pub over : (d : ℕ) → next (frame_of last d) ≡ None
