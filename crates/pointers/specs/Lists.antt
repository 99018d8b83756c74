-- What walks over lists say (own): a list is a chain of nodes, each of which owns the next.
use Rattle.std.specs.Prelude.{◌≡◌, ◌⊎◌, ◌+◌, ℕ, List, [], ◌∷◌, Option, None, Some, Result, Ok, Err, min}
use Rattle.std.specs.Fn.{CalledAt, Mut}
use denote.Ref.{Bor}
use Rattle.control_word.specs.declared.model.handle.Kind.TheVariants.{Owner}
use Rattle.control_block.specs.Desks.{DeskNow}
use Rattle.pointers.specs.Faults.{WhyNoMore}
use Rattle.pointers.specs.Places.{WhyNoMember}
use Rattle.pointers.specs.SiteCalls.{Loaded, WhyNotDone}
use Rattle.pointers.specs.Sites.{Site, member_site}
use Rattle.pointers.specs.declared.fault.Fault.{Fault}
use Rattle.pointers.specs.declared.fault.call.Call.{Call}
use Rattle.pointers.specs.declared.fault.call.Call.TheVariants.{Load}
use Rattle.pointers.specs.declared.known.Known.{Known}

module _ {V : Type 0} where
  -- the place behind a node
  abbrev pub next_of : Known V → Site V
  next_of c = member_site c 1

  -- the same, or this one where there is no node
  abbrev pub behind : Option (Known V) → Site V → Site V
  behind None s = s
  behind (Some c) s = next_of c

  -- a load of the place gave that
  abbrev pub Leads : DeskNow V → Site V → Option (Known V) → Type 0
  Leads o s got = Loaded o Owner s got

  -- or was refused for this
  abbrev pub WhyNotLed : DeskNow V → Site V → Fault → Type 0
  WhyNotLed o s why = WhyNotDone o Owner s Load why

  -- why a call on a member of a node was refused
  abbrev pub IsMemberRefused : DeskNow V → Known V → Fault → Type 0
  IsMemberRefused o c why = (call : Call) × (WhyNoMember c call why ⊎ WhyNoMore o (Some c) call why)

-- how many elements there are
abbrev pub somes : {E : Type 0} → List (Option E) → ℕ
somes [] = 0
somes (None ∷ xs) = somes xs
somes (Some e ∷ xs) = 1 + somes xs

module _ {V E : Type 0} (o : DeskNow V) (Copied : Known V → Option E → Type 0) where
  -- from one place to another, node by node, these elements came
  abbrev pub Walks : Site V → List (Option E) → Site V → Type 0
  Walks s [] t = s ≡ t
  Walks s (x ∷ xs) t = (c : Known V) × Leads o s (Some c) × Copied c x × Walks (next_of c) xs t

  -- the list has these elements, up to a place that holds no node
  abbrev pub Has : Site V → List (Option E) → Type 0
  Has s xs = (t : Site V) × Walks s xs t × Leads o t None

  -- so many are there
  abbrev pub IsCount : Site V → ℕ → Type 0
  IsCount s n = (xs : List (Option E)) × Has s xs × (n ≡ min (somes xs) 18446744073709551615)

  -- the same up to a place or a node that could not be looked at
  abbrev pub IsBroken : (Known V → Fault → Type 0) → Site V → List (Option E) → Fault → Type 0
  IsBroken Refused s xs why =
      (t : Site V) × Walks s xs t
      × (WhyNotLed o t why ⊎ ((c : Known V) × Leads o t (Some c) × Refused c why))

  abbrev pub IsBrokenOff : (Known V → Fault → Type 0) → Site V → Fault → Type 0
  IsBrokenOff Refused s why = (xs : List (Option E)) × IsBroken Refused s xs why

module _ {E F A : Type 0} (g : Mut F (Bor E × Unit {0}) (Result A Fault)) where
  -- f was called at each element, and answered this each time
  abbrev pub Answers : A → F → List (Option E) → F → Type 0
  Answers a f [] h = f ≡ h
  Answers a f (None ∷ xs) h = Answers a f xs h
  Answers a f (Some e ∷ xs) h = (m : F) × CalledAt g f e (Ok a) m × Answers a m xs h

module _ {V E F A : Type 0} (o : DeskNow V) (Copied : Known V → Option E → Type 0)
    (Refused : Known V → Fault → Type 0) (g : Mut F (Bor E × Unit {0}) (Result A Fault)) where
  -- f was called at each element of the list, and answered this each time
  pub record Ends (s : Site V) (a : A) (f : F) : Type 0 where
    pub elements : List (Option E)
    pub list : Has o Copied s elements
    pub last : F
    pub called : Answers g a f elements last

  -- f was called at each element up to one of a node, each time answered `a`, and for that one this
  pub record Stops (s : Site V) (a : A) (f : F) (answer : Result A Fault) (e : E) : Type 0 where
    pub elements : List (Option E)
    pub at : Site V
    pub walk : Walks o Copied s elements at
    pub before : F
    pub called : Answers g a f elements before
    pub node : Known V
    pub leads : Leads o at (Some node)
    pub copied : Copied node (Some e)
    pub after : F
    pub told : CalledAt g before e answer after

  -- or up to a place or a node that could not be looked at
  pub record Breaks (s : Site V) (a : A) (f : F) (why : Fault) : Type 0 where
    pub elements : List (Option E)
    pub broken : IsBroken o Copied Refused s elements why
    pub before : F
    pub called : Answers g a f elements before

  -- why a walk ended by a fault: a load was refused, or `f` answered it
  abbrev pub WhyEnded : Site V → A → F → Fault → Type 0
  WhyEnded s a f why = Breaks s a f why ⊎ ((e : E) × Stops s a f (Err why) e)
