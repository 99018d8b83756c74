-- Funds in hand: of running desks each handle has its funds on its count from when it is made, not only in a cell. So
-- what goes into a cell or comes out of it moves no funds. All of it is own.
use Rattle.std.specs.Prelude.{◌≡◌, ℕ, ◌+◌, ◌*◌, ◌==◌, cond, List, length, slice_index, Option, Some, None}
use Rattle.control_word.specs.declared.model.event.Entry.{Entry}
use Rattle.control_word.specs.declared.model.handle.Kind.{Kind}
use Rattle.control_word.specs.declared.model.handle.NumberedHandle.{NumberedHandle}
use Rattle.control_word.specs.declared.place.Place.{Place}
use Rattle.control_word.specs.declared.model.view.Pending.{Pending}
use Rattle.control_word.specs.declared.model.view.Pending.TheVariants.{Idle, Paying}
use Rattle.control_word.specs.declared.model.view.View.{View}
use Rattle.control_word.specs.State.{Opening, State, Held}
use Rattle.control_word.specs.Histories.{leads}
use Rattle.control_word.specs.Words.{blocks_of, counts_at, worth}
use Rattle.control_word.specs.Views.{Stands, total}
use Rattle.control_word.specs.Limits.{cell_funds, one_fund}
use Rattle.control_word.specs.Steps.{AddsBy, Point, ReadyBy}
use Rattle.control_word.specs.declared.model.event.Event.{Event}

-- the funds that handles in hand have on word i, each as many as one in a cell of which none were taken
abbrev pub hand_funds : State → ℕ → ℕ
hand_funds s i = total (λ (x : Held). worth (blocks_of s) x.handle 0 i) s.hands

module _ {V : Type 0} where
  -- what the handle of a half-done cell call lacks on word i, beside the funds that the call has out
  abbrev pub lacks : Pending V → ℕ → ℕ
  lacks (Paying k o p word funds loads) i = cond (i == word) cell_funds 0
  lacks _ i = 0

  abbrev pub lacking : List (View V) → ℕ → ℕ
  lacking views i = total (λ v. lacks v.pending i) views

  -- Between any two steps of running desks: without the funds of handles in hand the words stand for the history
  pub record StandsFunded (z : Opening) (words : List ℕ) (views : List (View V)) (history : List (Entry V))
      : Type 0 where
    pub bare : List ℕ
    pub stands : Stands z bare views history
    pub sized : length words ≡ length bare
    pub funded : (i : ℕ) → slice_index words i + one_fund * lacking views i
        ≡ slice_index bare i + one_fund * hand_funds (leads z history) i

  -- a handle that has just so many of its funds: with all of them nothing is owed
  abbrev pub short_of : Kind → ℕ → Option Place → ℕ → ℕ → Pending V
  short_of k o p word f = cond (f == cell_funds) Idle (Paying k o p word f 0)

  -- what came out of a cell has so many of its funds
  abbrev pub drawn : (ℕ → ℕ) → NumberedHandle → ℕ → Pending V
  drawn block h f = elim (h.object)
      [ None ↦ Idle | Some o ↦ short_of h.kind o h.place (counts_at block h.kind o) f ]

  abbrev pub ReadyFunded : Point V → Pending V → Type 0
  ReadyFunded at p = ReadyBy StandsFunded at p

  abbrev pub AddsFunded : Point V → ℕ → ℕ → Event V → Pending V → Type 0
  AddsFunded at k n e p = AddsBy StandsFunded at k n e p
