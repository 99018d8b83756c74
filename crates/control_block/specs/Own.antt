-- Which events of a history are a desk's own, and how its history goes on by them. Newest first.
use Rattle.std.specs.Prelude.{◌≡◌, ℕ, ◌==◌, cond, All, List, [], ◌∷◌, ◌++◌, Option}
use Rattle.control_word.specs.declared.model.event.Entry.{Entry}
use Rattle.control_word.specs.declared.model.event.Event.{Event}
use Rattle.control_word.specs.declared.model.event.Event.TheVariants.{Join, Split}
use Rattle.control_word.specs.declared.model.handle.Kind.{Kind}
use Rattle.control_word.specs.declared.place.Place.{Place}
use Rattle.control_word.specs.Histories.{IsLegal}
use Rattle.control_block.specs.Desks.{DeskNow, HasHandle, allowance_of, latest_of}
use Rattle.control_block.specs.Rule.{opening_of}

module _ {V : Type 0} where
  -- the events of a history under a name
  abbrev pub events_of : ℕ → List (Entry V) → List (Event V)
  events_of n [] = []
  events_of n (x ∷ h) = cond (x.desk == n) (x.event ∷ events_of n h) (events_of n h)

  -- those of a desk: it has seen all that it made
  abbrev pub own_of : DeskNow V → List (Event V)
  own_of d = events_of d.name d.seen

  -- the desk's history goes on from d to e, and of what comes these events are its own
  pub record Goes (d : DeskNow V) (own : List (Event V)) (e : DeskNow V) : Type 0 where
    pub same : (e.domain ≡ d.domain) × (e.shape ≡ d.shape) × (e.name ≡ d.name)
    pub later : List (Entry V)
    pub seen : e.seen ≡ later ++ d.seen
    pub mine : events_of d.name later ≡ own
    pub legal : IsLegal (opening_of d.shape) d.seen → IsLegal (opening_of d.shape) e.seen

  -- the same, and each of them is such an event
  pub record Does (is : Event V → Type 0) (d e : DeskNow V) : Type 0 where
    pub own : List (Event V)
    pub goes : Goes d own e
    pub all : All is own

  -- no desk comes or goes by the event
  abbrev pub KeepsDesks : Event V → Type 0
  KeepsDesks (Split to n hs bs) = ⊥
  KeepsDesks (Join other) = ⊥
  KeepsDesks _ = Unit {0}

  -- the desk has the whole allowance: every other one is joined, and it has seen all
  abbrev pub IsSole : DeskNow V → Type 0
  IsSole d = allowance_of d ≡ d.shape.allowance

  -- the object last made in a block is the same, wherever the desk had a handle
  abbrev pub KeepsLatest : DeskNow V → DeskNow V → Type 0
  KeepsLatest d e = (k : Kind) (p : Option Place) (b : ℕ) → HasHandle d k p b → latest_of e b ≡ latest_of d b

  -- what the desk has still is on the object that it was on
  abbrev pub KeepsHeld : DeskNow V → DeskNow V → Type 0
  KeepsHeld d e = (k : Kind) (p : Option Place) (b : ℕ) → HasHandle e k p b → latest_of e b ≡ latest_of d b
