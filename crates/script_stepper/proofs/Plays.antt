-- Turns, as functions of the abstract state: the machine's replies are what the state has.
use Rattle.std.proofs.Common.{ℕ, ◌-◌, List, [], ◌∷◌, ◌++◌, Some, None, Option}
use Rattle.script_stepper.proofs.Prelude.{AbstractState, acted, exact, frame_of, FrameView, heard}
use Rattle.script_stepper.proofs.Prelude.{Item, next, opening, put_frame, rest_of, rested_frame}
use Rattle.script_stepper.proofs.Prelude.{row_in, Said, said_by_row, state_in, Task, went}

abbrev pub play_from : AbstractState → ℕ → FrameView → Option Task → AbstractState
play_from c d w None = c
play_from c d w (Some t) =
    let w' = went (state_in c) d w t.statement (rest_of w.endings w.todo) t.act in
    put_frame c d w' (rested_frame (opening c.extent) d (acted exact (opening c.extent) d w.slots c.history t.act) w')

-- thread d makes its next act, and its endings go on by themselves; a thread at its end does nothing
abbrev pub play : ℕ → AbstractState → AbstractState
play d c = play_from c d (frame_of c d) (next (frame_of c d))

abbrev pub said_from : AbstractState → ℕ → FrameView → Option Task → Option Said
said_from c d w None = None
said_from c d w (Some t) = Some (said_by_row t.statement (row_in exact (state_in c) d w.slots w.taken t.act))

-- what its next act says
abbrev pub said : ℕ → AbstractState → Option Said
said d c = said_from c d (frame_of c d) (next (frame_of c d))

-- the abstract state after one turn of each of these threads, in order
abbrev pub plays : List ℕ → AbstractState → AbstractState
plays [] c = c
plays (thread ∷ turns) c = plays turns (play (thread - 1) c)

-- what these turns say
abbrev pub items_told : List ℕ → AbstractState → List Item
items_told [] c = []
items_told (thread ∷ turns) c = heard thread (said (thread - 1) c) ++ items_told turns (play (thread - 1) c)
