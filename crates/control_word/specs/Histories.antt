-- Histories have the newest event first. The state and the values are what a history leads to.
use Rattle.std.specs.Prelude.{◌≡◌, ℕ, suc, ◌+◌, cond, ◌&&◌, ◌==◌, List, [], ◌∷◌, Option, Some}
use Rattle.std.specs.Prelude.{None}
use Rattle.control_word.specs.declared.model.event.Event.{Event}
use Rattle.control_word.specs.declared.model.event.Event.TheVariants.{Make, Leave, Finish, Visit}
use Rattle.control_word.specs.declared.model.event.Entry.{Entry}
use Rattle.control_word.specs.Handles.{object_of}
use Rattle.control_word.specs.State.{Opening, IsOpening, State, IsActing, HasRoom, start}
use Rattle.control_word.specs.Events.{Asks, after}

module _ {V : Type 0} where
  abbrev pub entry : ℕ → Event V → Entry V
  entry d e = record { desk = d; event = e }

  abbrev pub leads : Opening → List (Entry V) → State
  leads z [] = start z
  leads z (e ∷ h) = after (leads z h) e.desk e.event

  -- the value of object o after one more event: what its Make got, as the visits left it
  abbrev pub valued : State → Event V → (ℕ → Option V) → ℕ → Option V
  valued s (Make b enabled null fields value) values o = cond (o == suc s.made) (Some value) (values o)
  valued s (Visit h was becomes) values o = cond (o == object_of h) (Some becomes) (values o)
  valued s _ values o = values o

  abbrev pub value : Opening → List (Entry V) → ℕ → Option V
  value z [] o = None
  value z (e ∷ h) o = valued (leads z h) e.event (value z h) o

  -- the value that an event speaks of is the object's
  abbrev pub Values : (ℕ → Option V) → Event V → Type 0
  Values values (Visit h was becomes) = values (object_of h) ≡ Some was
  Values values (Finish o vacant v) = values o ≡ Some v
  Values values _ = Unit {0}

  -- the event may come next
  pub record MayCome (z : Opening) (h : List (Entry V)) (d : ℕ) (e : Event V) : Type 0 where
    pub acting : IsActing (leads z h) d
    pub asks : Asks (leads z h) d e
    pub values : Values (value z h) e
    pub room : HasRoom (after (leads z h) d e) d

  -- the start is a proper one, and each event could come where it stands, with its reply
  abbrev pub IsLegal : Opening → List (Entry V) → Type 0
  IsLegal z [] = IsOpening z
  IsLegal z (e ∷ h) = IsLegal z h × MayCome z h e.desk e.event

  abbrev pub ends_by : ℕ → Event V → ℕ
  ends_by o (Leave h last) = cond (last && object_of h == o) 1 0
  ends_by o _ = 0

  -- how often the history says that o's last owner left
  abbrev pub given : ℕ → List (Entry V) → ℕ
  given o [] = 0
  given o (e ∷ h) = ends_by o e.event + given o h
