-- What the records of calls say of a desk's own events, each law by itself.
use Rattle.std.specs.Prelude.{◌≡◌, ℕ, true, All, List, [], ◌∷◌, ◌++◌, map}
use Rattle.control_word.specs.declared.model.event.Event.{Event}
use Rattle.control_word.specs.declared.model.event.Event.TheVariants.{Join, Split}
use Rattle.control_word.specs.Histories.{IsLegal, entry}
use Rattle.control_block.specs.Desks.{AddsEvent, DeskNow, state_of}
use Rattle.control_block.specs.Own.{Goes, IsSole, KeepsDesks, KeepsLatest, events_of, own_of}
use Rattle.control_block.specs.Parting.{JoinsWith, SplitsOff, in_history}
use Rattle.control_block.specs.Rule.{opening_of}
use Rattle.control_block.specs.declared.handles.Held.{Held}

module _ (V : Type 0) where
  -- a call adds its event to the desk's own
  abbrev pub CallsAdd : Type 0
  CallsAdd = (d : DeskNow V) (x : Event V) (e : DeskNow V) → AddsEvent d x e → own_of e ≡ x ∷ own_of d

  -- a split is the first desk's own, and the new desk has no event yet
  abbrev pub SplitsAdd : Type 0
  SplitsAdd =
      (d : DeskNow V) (a k : ℕ) (hs : List Held) (e new : DeskNow V) (parts : SplitsOff d a k hs e new)
      → (own_of e ≡ Split new.name a (in_history (state_of d) hs) parts.blocks ∷ own_of d) × (own_of new ≡ [])

  -- a join is the first desk's own. The other's events are in its history as they were, and the other's name is joined
  abbrev pub JoinsAdd : Type 0
  JoinsAdd =
      (d other e : DeskNow V) → JoinsWith d other e
      → (own_of e ≡ Join other.name ∷ own_of d) × (events_of other.name e.seen ≡ own_of other)
      × ((state_of e).joined other.name ≡ true)

  -- a name that is joined makes no event any more, and stays joined
  abbrev pub JoinedRest : Type 0
  JoinedRest =
      (d : DeskNow V) (own : List (Event V)) (e : DeskNow V) (n : ℕ) → Goes d own e
      → IsLegal (opening_of d.shape) d.seen
      → (state_of d).joined n ≡ true → (events_of n e.seen ≡ events_of n d.seen)
      × ((state_of e).joined n ≡ true)

  -- what goes on goes on by nothing, by a call, by a join, and by one after another
  abbrev pub GoesByNone : Type 0
  GoesByNone = (d : DeskNow V) → Goes d [] d

  abbrev pub GoesByCall : Type 0
  GoesByCall = (d : DeskNow V) (x : Event V) (e : DeskNow V) → AddsEvent d x e → Goes d (x ∷ []) e

  abbrev pub GoesByJoin : Type 0
  GoesByJoin = (d other e : DeskNow V) → JoinsWith d other e → Goes d (Join other.name ∷ []) e

  abbrev pub GoesInTurn : Type 0
  GoesInTurn =
      (d : DeskNow V) (xs : List (Event V)) (e : DeskNow V) (ys : List (Event V)) (f : DeskNow V)
      → Goes d xs e → Goes e ys f
      → Goes d (ys ++ xs) f

  -- and the own events are added to those that there were
  abbrev pub GoesAdd : Type 0
  GoesAdd = (d : DeskNow V) (own : List (Event V)) (e : DeskNow V) → Goes d own e → own_of e ≡ own ++ own_of d

  -- on a sole desk a call's event comes next
  abbrev pub ComesNext : Type 0
  ComesNext = (d : DeskNow V) (x : Event V) (e : DeskNow V) → AddsEvent d x e → IsSole d
      → e.seen ≡ entry d.name x ∷ d.seen

  -- its own events come one after the other, with nothing of others' between, and it is sole still
  abbrev pub ComeInARow : Type 0
  ComeInARow =
      (d : DeskNow V) (own : List (Event V)) (e : DeskNow V) → Goes d own e → All KeepsDesks own
      → IsLegal (opening_of d.shape) d.seen
      → IsSole d → (e.seen ≡ map (entry d.name) own ++ d.seen) × IsSole e

  -- no block in which the desk has a handle is used again
  abbrev pub CallsKeepLatest : Type 0
  CallsKeepLatest = (d : DeskNow V) (x : Event V) (e : DeskNow V) → AddsEvent d x e → KeepsLatest d e

  abbrev pub JoinsKeepLatest : Type 0
  JoinsKeepLatest = (d other e : DeskNow V) → other.shape ≡ d.shape → JoinsWith d other e
      → KeepsLatest d e × KeepsLatest other e
