-- A desk's pile of objects that end: the last of the list is the top, and what ends for it lies above it (own).
use Rattle.std.specs.Prelude.{◌≡◌, ◌≢◌, ℕ, zero, suc, ◌+◌, ◌<◌, ◌≤◌, Bool, cond, length, List, [], ◌∷◌}
use Rattle.std.specs.Prelude.{◌++◌, nat_lt, Option, None, Some, vec_capacity}
use Rattle.control_word.specs.declared.model.event.Event.{Event}
use Rattle.control_word.specs.declared.model.event.Event.TheVariants.{ClearMember, Finish, Leave, WeakLeave}
use Rattle.control_word.specs.declared.place.Block.{Block}
use Rattle.control_word.specs.declared.place.Place.{Place}
use Rattle.control_block.specs.Desks.{AddsEvent, Belongs, DeskNow, DomainNow, bag_of, endings_of, latest_of, stock_of}
use Rattle.shared_handle.specs.Endings.{EndsInHand, IsAllClear, IsClearing, IsLeft, with_clear}
use Rattle.shared_handle.specs.declared.endings.Ending.{Ending}
use Rattle.shared_handle.specs.declared.endings.Left.{Left}
use Rattle.shared_handle.specs.declared.endings.Left.TheVariants as left
use Rattle.shared_handle.specs.declared.pile.Gone.{Gone}
use Rattle.shared_handle.specs.declared.pile.Gone.TheVariants.{Empty, Last, Others}
use Rattle.shared_handle.specs.declared.pile.Pile.{Pile}
use Rattle.shared_handle.specs.declared.pile.Round.{Round}
use Rattle.shared_handle.specs.declared.pile.Round.TheVariants.{Cleared, Ended, Settled}

-- a round of a pile, with the desk and the pile before it
pub record Past (V : Type 0) : Type 0 where
  pub round : Round V
  pub desk : DeskNow V
  pub pile : List (Ending V)

-- an object of a pile that is in hand, with the desk and the pile without it
pub record OffPile (V : Type 0) : Type 0 where
  pub desk : DeskNow V
  pub pile : List (Ending V)
  pub ending : Ending V

module _ {V : Type 0} where
  -- a handle leaves, or an object ends
  abbrev pub IsParting : Event V → Type 0
  IsParting (Leave h last) = Unit {0}
  IsParting (WeakLeave h vacant) = Unit {0}
  IsParting (ClearMember o m h) = Unit {0}
  IsParting (Finish o vacant value) = Unit {0}
  IsParting _ = ⊥

  -- what is told of an owner that left
  abbrev pub gone_of : Left V → Gone
  gone_of left.Empty = Empty
  gone_of left.Others = Others
  gone_of (left.Last x) = Last

  -- no ending of the list is in the block
  abbrev pub NotAmong : ℕ → List (Ending V) → Type 0
  NotAmong b [] = Unit {0}
  NotAmong b (x ∷ xs) = (x.block.0 ≢ b) × NotAmong b xs

  -- they all end in the desk's hands, each in a block of its own
  abbrev pub AllEnd : DeskNow V → List (Ending V) → Type 0
  AllEnd d [] = Unit {0}
  AllEnd d (x ∷ xs) = EndsInHand d x × NotAmong x.block.0 xs × AllEnd d xs

  -- the pile with what came of a released owner
  abbrev pub piled : List (Ending V) → Left V → List (Ending V)
  piled xs left.Empty = xs
  piled xs left.Others = xs
  piled xs (left.Last y) = xs ++ y ∷ []

  -- the pile is of the desk's domain, with room for all its blocks, and what lies on it ends in the desk's hands
  pub record Carries (domain : DomainNow) (d : DeskNow V) (p : Pile V) : Type 0 where
    pub belongs : Belongs d domain
    pub ends : AllEnd d p.endings.items
    pub room : domain.shape.blocks ≤ vec_capacity p.endings

  -- and that is all that ends in the desk's hands
  pub record Bears (domain : DomainNow) (d : DeskNow V) (p : Pile V) : Type 0 where
    pub carries : Carries domain d p
    pub many : length p.endings.items ≡ endings_of d

  -- what ends in the desk's hands elsewhere than on the pile ends there still, as many as before, and beside the pile
  pub record KeepsElsewhere (d : DeskNow V) (xs : List (Ending V)) (e : DeskNow V)
      (ys : List (Ending V)) : Type 0 where
    pub count : endings_of e + length xs ≡ endings_of d + length ys
    pub beside : (x : Ending V) → AllEnd d (x ∷ xs) → AllEnd e (x ∷ ys)

  -- an owner left the desk, and what ends for it went onto the pile ([util.smartptr.shared.dest])
  pub record Drops (d : DeskNow V) (xs : List (Ending V)) (b : Option Block) (p : Option Place)
      (gone : Gone) (e : DeskNow V)
      (ys : List (Ending V)) : Type 0 where
    pub left : Left V
    pub leaves : IsLeft d b p left e
    pub told : gone ≡ gone_of left
    pub are : ys ≡ piled xs left

  -- one of them is in hand, and the others are on the pile
  pub record Stacked (domain : DomainNow) (d : DeskNow V) (p : Pile V) (x : Ending V) : Type 0 where
    pub belongs : Belongs d domain
    pub ends : EndsInHand d x
    pub apart : NotAmong x.block.0 p.endings.items
    pub others : AllEnd d p.endings.items
    pub room : domain.shape.blocks ≤ vec_capacity p.endings

  -- the first member that isn't cleared yet
  abbrev pub next_member : Ending V → Option ℕ
  next_member x = cond (nat_lt x.cleared x.members) (Some x.cleared) None

  -- an object all of whose members are clear is finished, and its value comes out
  pub record IsFinish (d : DeskNow V) (x : Ending V) (v : V) (e : DeskNow V) : Type 0 where
    pub clear : IsAllClear x
    pub value : v ≡ x.value
    pub vacant : Bool
    pub event : AddsEvent d (Finish (latest_of d x.block.0) vacant v) e
    pub stock : length (stock_of e) ≡ length (stock_of d) + cond vacant 1 0

  -- the first member of the top that isn't cleared is emptied, and what ends for it lies above the top; what was in the
  -- member is no more in the desk's hands
  pub record ClearsTop (d : DeskNow V) (ys : List (Ending V)) (m : ℕ) (gone : Gone) (e : DeskNow V)
      (zs : List (Ending V)) : Type 0 where
    pub below : List (Ending V)
    pub top : Ending V
    pub were : ys ≡ below ++ top ∷ []
    pub next : next_member top ≡ Some m
    pub left : Left V
    pub clears : IsClearing d top left e
    pub told : gone ≡ gone_of left
    pub are : zs ≡ piled (below ++ with_clear top ∷ []) left
    pub bag : bag_of e ≡ bag_of d

  -- the top is finished
  pub record FinishesTop (d : DeskNow V) (ys : List (Ending V)) (v : V) (e : DeskNow V)
      (zs : List (Ending V)) : Type 0 where
    pub top : Ending V
    pub were : ys ≡ zs ++ top ∷ []
    pub finish : IsFinish d top v e
    pub bag : bag_of e ≡ bag_of d

  -- a round of the pile: nothing where it is empty
  abbrev pub IsRound : DeskNow V → List (Ending V) → Round V → DeskNow V → List (Ending V) → Type 0
  IsRound d ys Settled e zs = (ys ≡ []) × (zs ≡ []) × (e ≡ d)
  IsRound d ys (Cleared m gone) e zs = ClearsTop d ys m gone e zs
  IsRound d ys (Ended v) e zs = FinishesTop d ys v e zs

  -- rounds in a row, the newest first
  abbrev pub AreRounds : DeskNow V → List (Ending V) → List (Past V) → DeskNow V → List (Ending V) → Type 0
  AreRounds d ys [] e zs = (e ≡ d) × (zs ≡ ys)
  AreRounds d ys (r ∷ rs) e zs = AreRounds d ys rs r.desk r.pile × IsRound r.desk r.pile r.round e zs

  -- the values that came out of them, the newest first
  abbrev pub value_of : Round V → List V → List V
  value_of Settled vs = vs
  value_of (Cleared m gone) vs = vs
  value_of (Ended v) vs = v ∷ vs

  abbrev pub values_of : List (Past V) → List V
  values_of [] = []
  values_of (r ∷ rs) = value_of r.round (values_of rs)

  -- this value came out of the last of them, and none of the others
  abbrev pub CameLast : V → List (Past V) → Type 0
  CameLast v [] = ⊥
  CameLast v (r ∷ rs) = (r.round ≡ Ended v) × (values_of rs ≡ [])

  -- calls took f to last, one a value, the newest first
  abbrev pub FoldsBack : {F : Type 0} → (F → V → F → Type 0) → F → List V → F → Type 0
  FoldsBack {F} step f [] last = last ≡ f
  FoldsBack {F} step f (v ∷ vs) last = (between : F) × FoldsBack step f vs between × step between v last

  -- the first of its members that isn't cleared is emptied, and what ends for it goes onto the pile
  pub record ClearsNext (a b : OffPile V) : Type 0 where
    pub some : a.ending.cleared < a.ending.members
    pub left : Left V
    pub clears : IsClearing a.desk a.ending left b.desk
    pub pile : b.pile ≡ piled a.pile left
    pub ending : b.ending ≡ with_clear a.ending
    pub bag : bag_of b.desk ≡ bag_of a.desk

  -- so many of its members are emptied, one after another
  abbrev pub ClearsInTurn : ℕ → OffPile V → OffPile V → Type 0
  ClearsInTurn zero a c = c ≡ a
  ClearsInTurn (suc n) a c = (b : OffPile V) × ClearsInTurn n a b × ClearsNext b c

  -- members of an object that ends, which hold nothing, are cleared in turn by looks, so many, and nothing ends for it
  abbrev pub ClearsByLooks : DeskNow V → Ending V → DeskNow V → Ending V → Type 0
  ClearsByLooks d x e y =
      (n : ℕ) × ((xs : List (Ending V)) → ClearsInTurn n (record { desk = d; pile = xs; ending = x })
      (record { desk = e; pile = xs; ending = y }))

  -- it ends at once, where all its members are cleared so; else it goes onto the pile
  pub record FinishesAtOnce (d : DeskNow V) (x : Ending V) (v : V) (e : DeskNow V) : Type 0 where
    pub between : DeskNow V
    pub clear : Ending V
    pub clears : ClearsByLooks d x between clear
    pub finish : IsFinish between clear v e

  abbrev pub EndsAtOnce : DeskNow V → List (Ending V) → Ending V → Option V → DeskNow V → List (Ending V) → Type 0
  EndsAtOnce d xs x None e ys = (y : Ending V) × ClearsByLooks d x e y × (ys ≡ xs ++ y ∷ [])
  EndsAtOnce d xs x (Some v) e ys = FinishesAtOnce d x v e × (ys ≡ xs)

  -- so ends what ends for an owner that left
  abbrev pub EndsForIt : DeskNow V → List (Ending V) → Left V → Option V → DeskNow V → List (Ending V) → Type 0
  EndsForIt d xs left.Empty v e ys = (v ≡ None) × (e ≡ d) × (ys ≡ xs)
  EndsForIt d xs left.Others v e ys = (v ≡ None) × (e ≡ d) × (ys ≡ xs)
  EndsForIt d xs (left.Last x) v e ys = EndsAtOnce d xs x v e ys

  -- an owner left the desk, and what ended for it did so at once, or went onto the pile
  -- ([util.smartptr.shared.dest])
  pub record DropsToEnd (d : DeskNow V) (xs : List (Ending V)) (b : Option Block) (p : Option Place) (gone : Gone)
      (v : Option V) (e : DeskNow V) (ys : List (Ending V)) : Type 0 where
    pub between : DeskNow V
    pub left : Left V
    pub leaves : IsLeft d b p left between
    pub told : gone ≡ gone_of left
    pub ends : EndsForIt between xs left v e ys

  -- the top ends: its members that aren't cleared are emptied in turn, what ends for it goes onto the pile, and then it
  -- is finished
  pub record EndsTop (d : DeskNow V) (ys : List (Ending V)) (v : V) (e : DeskNow V)
      (zs : List (Ending V)) : Type 0 where
    pub below : List (Ending V)
    pub top : Ending V
    pub were : ys ≡ below ++ top ∷ []
    pub many : ℕ
    pub after : OffPile V
    pub clears : ClearsInTurn many (record { desk = d; pile = below; ending = top }) after
    pub finish : IsFinish after.desk after.ending v e
    pub are : zs ≡ after.pile
