-- What calls that take elements out of a list say (own): `remove` and `retain`.
use Rattle.std.specs.Prelude.{◌≡◌, ◌⊎◌, ◌+◌, ℕ, Bool, true, false, All, IfSome, min}
use Rattle.std.specs.Prelude.{List, [], ◌∷◌, Option, None, Some, Result, Ok, Err}
use Rattle.std.specs.Fn.{CalledAt, Mut}
use denote.Ref.{Bor}
use Rattle.control_block.specs.Desks.{DeskNow}
use Rattle.pointers.specs.Known.{owned}
use Rattle.pointers.specs.ListChanges.{Comes, IsListRefused, IsPlaceOf, Passes, Swaps, Tells}
use Rattle.pointers.specs.Lists.{Leads, Walks, next_of}
use Rattle.pointers.specs.Sites.{Site}
use Rattle.pointers.specs.declared.fault.Fault.{Fault}
use Rattle.pointers.specs.declared.known.Known.{Known}

module _ {V : Type 0} where
  -- it is of the object that the node is
  abbrev pub IsThatNode : Option (Known V) → Known V → Type 0
  IsThatNode None node = ⊥
  IsThatNode (Some c) node = owned c ≡ owned node

  -- it is of another
  abbrev pub IsOther : Known V → Known V → Type 0
  IsOther node c = ¬ (owned c ≡ owned node)

  -- a place of the list held the node, and what the node's `next` owned came there: by a swap, or by a store after a
  -- load
  pub record GoesOut (o : DeskNow V) (s : Site V) (node : Known V) : Type 0 where
    pub at : Site V
    pub place : IsPlaceOf o s at
    pub held : Known V
    pub same : owned held ≡ owned node
    pub rest : Option (Known V)
    pub next : Leads o (next_of node) rest
    pub out : Swaps o at (Some held) rest ⊎ (Leads o at (Some held) × Comes o at rest)

  -- from behind a node the list came to its end, and that node was not there
  abbrev pub IsNotBehind : DeskNow V → Known V → Known V → Type 0
  IsNotBehind o node c =
      (cs : List (Known V)) × (t : Site V) × Passes o (next_of c) cs t × Leads o t None × All (IsOther node) cs

  -- the node was not behind what the list's place held
  abbrev pub IsMissing : DeskNow V → Site V → Known V → Type 0
  IsMissing o s node = (held : Option (Known V)) × Tells o s held × IfSome held (IsNotBehind o node)

  -- whether the node went out, or was not there
  abbrev pub IsUnlinked : DeskNow V → Site V → Known V → Bool → Type 0
  IsUnlinked o s node true = GoesOut o s node
  IsUnlinked o s node false = IsMissing o s node

-- there is no element, or one that is not the same as that
abbrev pub Differs : {E : Type 0} → (E → E → Type 0) → E → Option E → Type 0
Differs Same e x = IfSome x (λ y. ¬ Same y e)

module _ {V E : Type 0} (Copied : Known V → Option E → Type 0) (Same : E → E → Type 0) where
  -- a copy of a node's element was taken: whether it is the same as that
  abbrev pub IsFound : Known V → E → Bool → Type 0
  IsFound c e true = (x : E) × Copied c (Some x) × Same x e
  IsFound c e false = (x : Option E) × Copied c x × Differs Same e x

module _ {V E : Type 0} (o : DeskNow V) (Copied : Known V → Option E → Type 0) (Same : E → E → Type 0) where
  -- the list came to its end, and none of its elements is the same as that
  pub record HasNot (s : Site V) (e : E) : Type 0 where
    pub elements : List (Option E)
    pub at : Site V
    pub walk : Walks o Copied s elements at
    pub ends : Leads o at None
    pub others : All (Differs Same e) elements

  -- the first one that is went out
  pub record TakesOut (s : Site V) (e : E) : Type 0 where
    pub before : List (Option E)
    pub at : Site V
    pub walk : Walks o Copied s before at
    pub others : All (Differs Same e) before
    pub node : Known V
    pub leads : Leads o at (Some node)
    pub found : IsFound Copied Same node e true
    pub out : GoesOut o s node

  abbrev pub Removes : Site V → E → Bool → Type 0
  Removes s e true = TakesOut s e
  Removes s e false = HasNot s e

-- what a `retain` did with an element: whether it was to stay, and whether it went out
pub record Sifted (E : Type 0) : Type 0 where
  pub element : Option E
  pub kept : Bool
  pub out : Bool

-- 1 or 0
abbrev pub number_if : Bool → ℕ
number_if true = 1
number_if false = 0

-- how many went out
abbrev pub outs : {E : Type 0} → List (Sifted E) → ℕ
outs [] = 0
outs (x ∷ xs) = number_if x.out + outs xs

module _ {V : Type 0} where
  -- a node that is to stay did not go out; another did, or was not there
  abbrev pub IsSifted : DeskNow V → Site V → Known V → Bool → Bool → Type 0
  IsSifted o s c true out = out ≡ false
  IsSifted o s c false out = IsUnlinked o s c out

  -- the place behind a node that stays, or the one that led to it
  abbrev pub next_if : Bool → Known V → Site V → Site V
  next_if true c s = next_of c
  next_if false c s = s

module _ {V E F : Type 0} (Copied : Known V → Option E → Type 0)
    (g : Mut F (Bor E × Unit {0}) (Result Bool Fault)) where
  -- a copy of a node's element was taken, and f was called at it: what f answered. A node without one does not stay
  abbrev pub Judges : F → Known V → Option E → Result Bool Fault → F → Type 0
  Judges f c None answer h = Copied c None × (answer ≡ Ok false) × (f ≡ h)
  Judges f c (Some e) answer h = Copied c (Some e) × CalledAt g f e answer h

module _ {V E F : Type 0} (o : DeskNow V) (Copied : Known V → Option E → Type 0)
    (Refused : Known V → Fault → Type 0) (g : Mut F (Bor E × Unit {0}) (Result Bool Fault)) where
  -- from one place of the list to another, f was called at each element. After one that is not to stay the walk went on
  -- from the same place
  abbrev pub Sifts : Site V → Site V → F → List (Sifted E) → Site V → F → Type 0
  Sifts list s f [] t h = (s ≡ t) × (f ≡ h)
  Sifts list s f (x ∷ xs) t h =
      (c : Known V) × (m : F) × Leads o s (Some c) × Judges Copied g f c x.element (Ok x.kept) m
      × IsSifted o list c x.kept x.out × Sifts list (next_if x.kept c s) m xs t h

  -- the list came to its end so, and that many went out
  pub record Retains (s : Site V) (f : F) (n : ℕ) : Type 0 where
    pub elements : List (Sifted E)
    pub at : Site V
    pub last : F
    pub sifts : Sifts s s f elements at last
    pub ends : Leads o at None
    pub many : n ≡ min (outs elements) 18446744073709551615

  -- or it came to an element for which f answered a fault
  pub record Fails (s : Site V) (f : F) (why : Fault) : Type 0 where
    pub elements : List (Sifted E)
    pub at : Site V
    pub before : F
    pub sifts : Sifts s s f elements at before
    pub node : Known V
    pub leads : Leads o at (Some node)
    pub element : Option E
    pub after : F
    pub judged : Judges Copied g before node element (Err why) after

  -- why a `retain` ended by a fault: f answered it, or a call was refused
  abbrev pub WhyNotRetained : Site V → F → Fault → Type 0
  WhyNotRetained s f why = Fails s f why ⊎ IsListRefused o Refused s why
