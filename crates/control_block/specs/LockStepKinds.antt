-- What the steps of a lock tell.
use Rattle.std.specs.Prelude.{◌≡◌, ◌≢◌, ◌+◌, ◌<◌, ◌==◌, ℕ, not, true, false, Bool, List, [], ◌∷◌}
use Rattle.std.specs.Prelude.{Option}
use Rattle.atomic_table.specs.Table.{Step}
use Rattle.control_word.specs.declared.model.event.Entry.{Entry}
use Rattle.control_word.specs.declared.model.event.Event.TheVariants.{Lock}
use Rattle.control_word.specs.declared.place.Place.{Place}
use Rattle.control_word.specs.Handles.{weak_of}
use Rattle.control_word.specs.Histories.{leads}
use Rattle.control_word.specs.Limits.{one_funded}
use Rattle.control_word.specs.State.{State, count}
use Rattle.control_block.specs.Rule.{opening_of}
use Rattle.control_block.specs.StepKinds.{At, tells}
use Rattle.control_block.specs.declared.table.SeatView.{SeatView}

module _ {V : Type 0} where
  -- the history before its newest event
  abbrev pub earlier : List (Entry V) → List (Entry V)
  earlier [] = []
  earlier (e ∷ h) = h

  -- the state just before the newest event that the seat has seen
  abbrev pub before : SeatView V → State
  before v = leads (opening_of v.shape) (earlier v.view.seen)

  -- an owner came out just where one remained ([util.smartptr.weak.obs])
  abbrev pub GotOwner : ℕ → Bool → SeatView V → Type 0
  GotOwner o got v = got ≡ not (count (before v) o == 0)

  -- the lock of an object without owner; where the word isn't 0 nothing changes, and it has room for one more
  abbrev pub sought_owner : ℕ → Option Place → Step (Option V) → At V → ℕ → At V → Type 0
  sought_owner o p st m n m' =
      (n ≡ 0 → tells (Lock (weak_of o p) false) m.0 m'.0 × (m'.1 ≡ m.1))
      × (n ≢ 0 → (m' ≡ m) × (n + one_funded < 18446744073709551616))

  -- the lock of an object with an owner, where the word was the one that was found; else nothing changes
  abbrev pub locked : ℕ → Option Place → Step (Option V) → At V → ℕ → At V → Type 0
  locked o p st m n m' = (n ≡ st.first → tells (Lock (weak_of o p) true) m.0 m'.0 × (m'.1 ≡ m.1))
      × (n ≢ st.first → m' ≡ m)
