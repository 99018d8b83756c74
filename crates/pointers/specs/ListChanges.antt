-- What calls that change a list say (own).
use Rattle.std.specs.Prelude.{◌≡◌, ◌⊎◌, Bool, List, [], ◌∷◌, Option, None, Some}
use Rattle.control_word.specs.declared.model.handle.Kind.TheVariants.{Owner}
use Rattle.control_block.specs.Desks.{DeskNow}
use Rattle.pointers.specs.SiteCalls.{Stored}
use Rattle.pointers.specs.Compares.{Finds, Shows}
use Rattle.pointers.specs.Faults.{WhyNoMore, WhyNotMade}
use Rattle.pointers.specs.Known.{AreOfOne, pointed}
use Rattle.pointers.specs.Lists.{Leads, behind, next_of}
use Rattle.pointers.specs.Places.{WhyNotDoneAt, cell_at}
use Rattle.pointers.specs.Sites.{Site, owner_of}
use Rattle.pointers.specs.Objects.{MakesPlain}
use Rattle.pointers.specs.declared.fault.Fault.{Fault}
use Rattle.pointers.specs.declared.fault.call.Call.{Call}
use Rattle.pointers.specs.declared.fault.call.Call.TheVariants.{Share}
use Rattle.pointers.specs.declared.known.Known.{Known}

module _ {V : Type 0} where
  -- by one step, what the place held was this pointer, or an empty one, and is that one since
  abbrev pub Swaps : DeskNow V → Site V → Option (Known V) → Option (Known V) → Type 0
  Swaps o s hoped new =
      (weak : Bool) × Finds o (owner_of s) (cell_at o Owner s) Owner weak hoped new None

  -- that pointer, or an empty one, came into the place, whatever it held
  abbrev pub Comes : DeskNow V → Site V → Option (Known V) → Type 0
  Comes o s new = Stored o Owner s new

  -- the place, whatever it held, is empty since
  abbrev pub Empties : DeskNow V → Site V → Type 0
  Empties o s = Comes o s None

  -- both point at one place, and are of one object, or both are empty
  abbrev pub AreAlike : DeskNow V → Option (Known V) → Option (Known V) → Type 0
  AreAlike o None None = Unit {0}
  AreAlike o None (Some b) = ⊥
  AreAlike o (Some a) None = ⊥
  AreAlike o (Some a) (Some b) = AreOfOne o a b × (pointed b ≡ pointed a)

  -- a node's next one is the same as this one, or there is none
  abbrev pub Follows : DeskNow V → Known V → Option (Known V) → Type 0
  Follows o c first = (copy : Option (Known V)) × AreAlike o first copy × Comes o (next_of c) copy

  -- from one place to another, node by node
  abbrev pub Passes : DeskNow V → Site V → List (Known V) → Site V → Type 0
  Passes o s [] t = s ≡ t
  Passes o s (c ∷ cs) t = Leads o s (Some c) × Passes o (next_of c) cs t

  -- the place held that, as a load told, or a compare that differed
  abbrev pub Tells : DeskNow V → Site V → Option (Known V) → Type 0
  Tells o s got = Shows o (owner_of s) (cell_at o Owner s) got

  -- a place of the list: its own, or the one behind a node to which a walk came
  abbrev pub IsPlaceOf : DeskNow V → Site V → Site V → Type 0
  IsPlaceOf o s t =
      (s ≡ t) ⊎ ((c : Known V) × Tells o s (Some c) × ((cs : List (Known V)) × Passes o (next_of c) cs t))

  -- the list came to its end behind that node, or it has none
  abbrev pub IsLast : DeskNow V → Site V → Option (Known V) → Type 0
  IsLast o s got = (cs : List (Known V)) × Passes o s cs (behind got s) × Leads o (behind got s) None

  -- why a call on a place was refused
  abbrev pub IsRefusedAt : DeskNow V → Site V → Fault → Type 0
  IsRefusedAt o s why = (call : Call) × WhyNotDoneAt o Owner s call why

module _ {V : Type 0} (o : DeskNow V) (Refused : Known V → Fault → Type 0) where
  -- why a call on a node was refused: on its element, or one for an owner more of it
  abbrev pub IsNodeRefused : Known V → Fault → Type 0
  IsNodeRefused c why = Refused c why ⊎ WhyNoMore o (Some c) Share why

  -- why a call on a list was: a call on one of its places was refused, or on the node there
  abbrev pub IsListRefused : Site V → Fault → Type 0
  IsListRefused s why =
      (t : Site V) × IsPlaceOf o s t
      × (IsRefusedAt o t why ⊎ ((c : Known V) × Leads o t (Some c) × IsNodeRefused c why))

  -- why there was no new node: none could be made, or a call on the one that was made was refused
  abbrev pub WhyNoNode : V → Fault → Type 0
  WhyNoNode x why =
      WhyNotMade why ⊎ ((c : Known V) × MakesPlain o x c × (Refused c why ⊎ IsRefusedAt o (next_of c) why))

  -- why an element didn't come: there was no new node, or a call on the list was refused
  abbrev pub WhyNotPushed : Site V → V → Fault → Type 0
  WhyNotPushed s x why = WhyNoNode x why ⊎ IsListRefused s why

module _ {V E : Type 0} (o : DeskNow V) (Copied : Known V → Option E → Type 0) where
  -- the first node went out, with that element
  pub record TakesFirst (s : Site V) (x : Option E) : Type 0 where
    pub node : Known V
    pub leads : Leads o s (Some node)
    pub copied : Copied node x
    pub rest : Option (Known V)
    pub next : Leads o (next_of node) rest
    pub out : Swaps o s (Some node) rest

  -- it did, or the list had no node
  abbrev pub Pops : Site V → Option E → Type 0
  Pops s x = TakesFirst s x ⊎ (Leads o s None × (x ≡ None))

module _ {V E : Type 0} (o : DeskNow V) (GoesIn : Known V → E → Type 0) where
  -- a new node with this value has the element
  abbrev pub IsNode : E → V → Known V → Type 0
  IsNode e x c = MakesPlain o x c × GoesIn c e

  -- a new node with the element and this value came into the list's first place, and owns what that held
  pub record Heads (s : Site V) (e : E) (x : V) : Type 0 where
    pub node : Known V
    pub made : IsNode e x node
    pub first : Option (Known V)
    pub follows : Follows o node first
    pub comes : Swaps o s first (Some node)

  -- a new node with the element and this value came behind the last one, or first where there was none
  pub record Appends (s : Site V) (e : E) (x : V) : Type 0 where
    pub node : Known V
    pub made : IsNode e x node
    pub before : List (Known V)
    pub at : Site V
    pub walk : Passes o s before at
    pub last : Leads o at None
    pub comes : Comes o at (Some node) ⊎ Swaps o at None (Some node)
