-- What a world tells of its state.
use Rattle.std.specs.Prelude.{◌≡◌, ℕ, ◌-◌, Bool, true, false, cond, List, [], All, length, ◌==◌, Option}
use Rattle.std.specs.Prelude.{Some, None}
use Rattle.std.specs.List.{filter}
use Rattle.control_word.specs.declared.packed.counts.Counts.{Counts}
use Rattle.control_word.specs.declared.model.event.Entry.{Entry}
use Rattle.control_word.specs.declared.model.event.Event.{Event}
use Rattle.control_word.specs.declared.model.event.Event.TheVariants.{Make, Leave}
use Rattle.control_word.specs.State.{State, count, weak, weak_number}
use Rattle.step_threads.specs.declared.pending_call.PendingCall.{PendingCall}
use Rattle.step_threads.specs.declared.pending_call.PendingCall.TheVariants.{Rest}
use Rattle.step_threads.specs.Frames.{FrameView}
use Rattle.step_table.specs.GhostStates.{Nothing}
use Rattle.step_core.specs.Worlds.{WorldState}

abbrev pub is_make : Event Nothing → Bool
is_make (Make b enabled null fields v) = true
is_make _ = false

abbrev pub is_last_leave : Event Nothing → Bool
is_last_leave (Leave h last) = last
is_last_leave _ = false

-- how many objects were made, and of how many the last owner left (own)
abbrev pub made_in : List (Entry Nothing) → ℕ
made_in h = length (filter (λ (e : Entry Nothing). is_make e.event) h)

abbrev pub ended_in : List (Entry Nothing) → ℕ
ended_in h = length (filter (λ (e : Entry Nothing). is_last_leave e.event) h)

-- the owners and weak handles of what is in a block; none where it is vacant ([util.smartptr.shared.obs], and own)
abbrev pub census_of : State → ℕ → Option Counts
census_of s b = let o = s.latest b in
    cond (weak_number s o == 0) None (Some (record { owners = count s o; weaks = weak s o }))

-- the fields of what is in a block; none where it is vacant (own)
abbrev pub fields_of : State → ℕ → Option (List ℕ)
fields_of s b = let o = s.latest b in cond (weak_number s o == 0) None (Some (s.object o).fields)

-- what a block's two numbers say: its owners have one weak handle in common (own)
abbrev pub counts_in : ℕ → ℕ → Option Counts
counts_in owners number =
    cond (number == 0) None (Some (record { owners = owners; weaks = number - cond (owners == 0) 0 1 }))

-- each thread has made its last act and ended its last object
pub record IsAtEnd (u : WorldState) : Type 0 where
  pub frame_views : All (λ (w : FrameView). w.todo ≡ []) u.frame_views
  pub endings : All (λ (w : FrameView). w.endings ≡ []) u.frame_views
  pub pending_calls : All (λ (h : PendingCall). h ≡ Rest) u.pending_calls
