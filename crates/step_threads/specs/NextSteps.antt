-- What one step of a thread does, by what it has begun and by its next act. All of it is own.
use Rattle.std.specs.Prelude.{ℕ, ◌==◌, Bool, false, not, ◌&&◌, cond, List, [], ◌∷◌, get_or, is_some}
use Rattle.std.specs.Prelude.{Option, Some, None, option_map}
use Rattle.control_word.specs.declared.packed.cell.CellWord.{CellWord}
use Rattle.control_word.specs.declared.place.Block.{Block}
use Rattle.control_word.specs.State.{weak}
use Rattle.control_word.specs.declared.model.handle.Kind.{Kind}
use Rattle.step_threads.specs.declared.programs.act.Act.{Act}
use Rattle.step_threads.specs.declared.programs.act.Act.TheVariants.{Make, Share, Downgrade, Lock, Put, Leave, Clear}
use Rattle.step_threads.specs.declared.programs.act.Act.TheVariants.{Count}
use Rattle.step_threads.specs.declared.programs.act.Act.TheVariants.{Expired, Read, FromThis, Alias, Move, Ask, Offer}
use Rattle.step_threads.specs.declared.programs.act.Act.TheVariants.{Swap}
use Rattle.step_threads.specs.declared.programs.act.Act.TheVariants.{Exchange, Load, Compare, Holds, Drop, OnShelf}
use Rattle.step_threads.specs.declared.programs.act.Task.{Task}
use Rattle.step_threads.specs.declared.ending.Ending.{Ending}
use Rattle.step_threads.specs.declared.pending_call.PendingCall.{PendingCall}
use Rattle.step_threads.specs.declared.pending_call.PendingCall.TheVariants.{Rest, Making, Locking, Giving, Brought}
use Rattle.step_threads.specs.declared.pending_call.PendingCall.TheVariants.{Saw, Matched}
use Rattle.step_threads.specs.declared.pending_call.PendingCall.TheVariants.{Refill, Returning, Clearing}
use Rattle.control_word.specs.declared.handle.Handle.{Handle}
use Rattle.step_table.specs.declared.memory.ghost_history.AtomicStep.{AtomicStep}
use Rattle.step_threads.specs.declared.said.Stepped.{Stepped}
use Rattle.step_threads.specs.declared.said.Stepped.TheVariants.{Event, Quiet, Waited, Done}
use Rattle.step_threads.specs.Actors.{wanted}
use Rattle.step_threads.specs.Frames.{Going, FrameView, cell_of_name, comparing, form_of, going, hand, is_there}
use Rattle.step_threads.specs.Frames.{locked_pointer, offered}
use Rattle.step_threads.specs.Frames.{on_going, other}
use Rattle.step_table.specs.Contents.{as_word, compared_in, is_spent, same_value, seen}
use Rattle.step_table.specs.AtomicSteps.{downgrade, give, leave, read_atomic_step, share, tell, tell_expired, alias}
use Rattle.step_table.specs.AtomicSteps.{aliased, on}
use Rattle.step_table.specs.Registers.{inside, is_full, slot_pointer, owner_slot, place_in, slot_value}
use Rattle.step_threads.specs.Entries.{holds_step, least}
use Rattle.step_threads.specs.Shelving.{shelf_block, shelf_step}
use Rattle.step_table.specs.GhostStates.{GhostState, ghost_after_step, event_of, known_words, pending, model_state}
use Rattle.step_threads.specs.Steps.{Step, step_of_act, begins, looks, tries, asks, step_of_swap, sends, step_of_look}
use Rattle.step_threads.specs.Steps.{takes, step_of_compare}
use Rattle.step_threads.specs.Steps.{matches, settles, refills_on, returns, prepares, claims, ends_on, empties}

-- the first step of the next act, or the whole of it
abbrev pub first : GhostState → ℕ → FrameView → ℕ → List Task → Act → Step
first v d w k ts (Make form) = begins w k ts (least d (model_state v).stores)
first v d w k ts (Share i) = step_of_act v d w k ts (Share i) (option_map share (slot_pointer w.slots i)) Rest
first v d w k ts (Put i) =
    step_of_act v d w k ts (Put i) (option_map (leave (model_state v)) (slot_pointer w.slots i)) Rest
first v d w k ts (Leave i) =
    step_of_act v d w k ts (Leave i) (option_map (leave (model_state v)) (slot_pointer w.slots i)) Rest
first v d w k ts (Clear i) =
    step_of_act v d w k ts (Clear i) (option_map (leave (model_state v)) (slot_pointer w.slots i)) Rest
first v d w k ts (Count i) = step_of_act v d w k ts (Count i) (option_map (tell v) (slot_pointer w.slots i)) Rest
first v d w k ts (Downgrade i) =
    step_of_act v d w k ts (Downgrade i) (option_map downgrade (slot_pointer w.slots i)) Rest
first v d w k ts (Lock i must) = let a = Lock i must in
    on (looks v d w k ts a) (step_of_act v d w k ts a None Rest) (locked_pointer w.slots a)
first v d w k ts (Expired i) =
    step_of_act v d w k ts (Expired i) (option_map (tell_expired (model_state v)) (slot_pointer w.slots i)) Rest
first v d w k ts (Read i) =
    step_of_act v d w k ts (Read i) (option_map (read_atomic_step (model_state v)) (inside (slot_pointer w.slots i)))
    Rest
first v d w k ts (FromThis i kind) = on (asks v d w k ts i kind) (step_of_act v d w k ts (FromThis i kind) None Rest)
    (inside (slot_pointer w.slots i))
first v d w k ts (Alias i j field) =
    step_of_act v d w k ts (Alias i j field)
    (option_map (alias (aliased field (place_in w.slots j))) (owner_slot (slot_pointer w.slots i))) Rest
first v d w k ts (Move i) = step_of_act v d w k ts (Move i) None Rest
first v d w k ts (Ask q) = step_of_act v d w k ts (Ask q) None Rest
first v d w k ts (Offer i c) = step_of_act v d w k ts (Offer i c) (option_map share (offered w.slots i c)) Rest
first v d w k ts (Swap c) = let a = Swap c in
    on_going (sends v d w k ts a) (step_of_act v d w k ts a None Rest) (going w.slots a)
first v d w k ts (Exchange i c) = let a = Exchange i c in
    on_going (sends v d w k ts a) (step_of_act v d w k ts a None Rest) (going w.slots a)
first v d w k ts (Load c) =
    let x = cell_of_name (model_state v) w.slots c in
    cond (is_there w.slots c) (step_of_look v d w k ts (Load c) x None (seen v x))
    (step_of_act v d w k ts (Load c) None Rest)
first v d w k ts (Compare i c weak) =
    let x = cell_of_name (model_state v) w.slots c in
    step_of_compare v d w k ts (Compare i c weak) x (compared_in w.slots (comparing w.slots i weak)) (seen v x)
first v d w k ts (Holds i c) = step_of_act v d w k ts (Holds i c) (holds_step (model_state v) w.slots i c) Rest
first v d w k ts Drop =
    step_of_act v d w k ts Drop (option_map (leave (model_state v)) (slot_pointer w.slots (other w.slots))) Rest
first v d w k ts (OnShelf x) =
    step_of_act v d w k ts (OnShelf x) (shelf_step x (shelf_block (model_state v) d x)) Rest

abbrev pub begun : GhostState → ℕ → FrameView → List Task → Option Step
begun v d w [] = None
begun v d w (t ∷ ts) = Some (first v d w t.statement ts t.act)

abbrev pub tried : GhostState → ℕ → FrameView → ℕ → List Task → Option Step
tried v d w word [] = None
tried v d w word (t ∷ ts) = option_map (tries v d w t.statement ts t.act word) (locked_pointer w.slots t.act)

-- the object gives pointers to itself: one is taken
abbrev pub given_step : GhostState → ℕ → FrameView → ℕ → Kind → Handle → List Task → Option Step
given_step v d w i kind x [] = None
given_step v d w i kind x (t ∷ ts) =
    Some (step_of_act v d w t.statement ts (FromThis i kind) (Some (give kind x)) Rest)

-- the funds are brought: the swap
abbrev pub sent : GhostState → ℕ → FrameView → List Task → Option Step
sent v d w [] = None
sent v d w (t ∷ ts) =
    option_map (λ (x : Going). step_of_swap v d w t.statement ts t.act x.0 x.1) (going w.slots t.act)

-- the next step of an act on a cell that was seen to hold this
abbrev pub saw_on : GhostState → ℕ → FrameView → ℕ → List Task → CellWord → Act → Option Step
saw_on v d w k ts x (Load c) = Some (takes v d w k ts (Load c) (cell_of_name (model_state v) w.slots c) None x)
saw_on v d w k ts x (Compare i c weak) =
    Some (settles v d w k ts (Compare i c weak) (cell_of_name (model_state v) w.slots c)
    (compared_in w.slots (comparing w.slots i weak)) x)
saw_on v d w k ts x _ = None

abbrev pub saw : GhostState → ℕ → FrameView → CellWord → List Task → Option Step
saw v d w x [] = None
saw v d w x (t ∷ ts) = saw_on v d w t.statement ts x t.act

-- the next step of a compare whose cell was seen to hold what is expected, and which has brought the funds of what is
-- to go in
abbrev pub matched_on : GhostState → ℕ → FrameView → ℕ → List Task → CellWord → Act → Option Step
matched_on v d w k ts x (Compare i c weak) =
    Some (matches v d w k ts (Compare i c weak) (cell_of_name (model_state v) w.slots c)
    (compared_in w.slots (comparing w.slots i weak)) x)
matched_on v d w k ts x _ = None

abbrev pub matched : GhostState → ℕ → FrameView → CellWord → List Task → Option Step
matched v d w x [] = None
matched v d w x (t ∷ ts) = matched_on v d w t.statement ts x t.act

abbrev pub made_on : GhostState → ℕ → FrameView → Block → ℕ → Bool → List Task → Option Step
made_on v d w b i differs [] = None
made_on v d w b i differs (t ∷ ts) =
    Some (cond (i == 5) (claims w t.statement ts b (form_of t.act))
    (prepares (get_or (known_words (pending v d)) i 0) (get_or (wanted (form_of t.act)) i 0) w t.statement b i differs))

abbrev pub emptied : GhostState → FrameView → List Ending → Option Step
emptied v w [] = None
emptied v w (e ∷ es) = Some (empties v w e es)

-- within no act: what came out of a member leaves, or else the ending begun last goes on; without endings the next task
-- comes
abbrev pub at_rest : GhostState → ℕ → FrameView → List Ending → Option Step
at_rest v d w [] = begun v d w w.todo
at_rest v d w (e ∷ es) =
    Some (cond (is_full (slot_pointer w.slots (hand w.slots)))
    (first v d w e.statement w.todo (Leave (hand w.slots))) (ends_on v w e es))

-- the step of desk d's thread that has begun this and is here; none at its end
abbrev pub step_at : GhostState → ℕ → PendingCall → FrameView → Option Step
step_at v d Rest w = at_rest v d w w.endings
step_at v d (Making b i differs) w = made_on v d w b i differs w.todo
step_at v d (Locking word) w = tried v d w word w.todo
step_at v d (Giving i kind x) w = given_step v d w i kind x w.todo
step_at v d Brought w = sent v d w w.todo
step_at v d (Saw x) w = saw v d w x w.todo
step_at v d (Matched x) w = matched v d w x w.todo
step_at v d (Refill stage c x k) w = option_map (refills_on v w stage c x k) x.owned
step_at v d (Returning kind b funds k) w = Some (returns w kind b funds k)
step_at v d Clearing w = emptied v w w.endings

-- what it makes of the table
abbrev pub ghost_after : GhostState → ℕ → Option AtomicStep → GhostState
ghost_after v d None = v
ghost_after v d (Some x) = ghost_after_step v d x

abbrev pub ghost_by : GhostState → ℕ → Option Step → GhostState
ghost_by v d None = v
ghost_by v d (Some x) = ghost_after v d x.atomic_step

abbrev pub frame_by : FrameView → Option Step → FrameView
frame_by w None = w
frame_by w (Some x) = x.frame_view

abbrev pub pending_call_by : PendingCall → Option Step → PendingCall
pending_call_by h None = h
pending_call_by h (Some x) = x.pending_call

abbrev pub atomic_step_is_event : GhostState → Option AtomicStep → Bool
atomic_step_is_event v None = false
atomic_step_is_event v (Some x) = is_some (event_of (model_state v) x)

-- the next act looks at a cell of whose value all funds were taken, and which it loads, or finds to differ: it waits
-- until some are put back
abbrev pub waits_on : GhostState → FrameView → Act → Bool
waits_on v w (Load c) = is_there w.slots c && is_spent (seen v (cell_of_name (model_state v) w.slots c))
waits_on v w (Compare i c weak) =
    let x = seen v (cell_of_name (model_state v) w.slots c) in
    not (same_value x (as_word (slot_value w.slots i))) && is_spent x
waits_on v w _ = false

abbrev pub waits_at : GhostState → FrameView → List Ending → List Task → Bool
waits_at v w [] [] = false
waits_at v w [] (t ∷ ts) = waits_on v w t.act
waits_at v w (e ∷ es) ts = false

abbrev pub waits : GhostState → PendingCall → FrameView → Bool
waits v Rest w = waits_at v w w.endings w.todo
waits v _ w = false

-- what the step answers, where it doesn't wait: an event says so
abbrev pub stepped : GhostState → Option Step → Stepped
stepped v None = Done
stepped v (Some x) = cond (atomic_step_is_event v x.atomic_step) (Event x.said) (Quiet x.said)

-- and a step that waits says so
abbrev pub answered : GhostState → ℕ → PendingCall → FrameView → Stepped
answered v d h w = cond (waits v h w) Waited (stepped v (step_at v d h w))
