-- What contracts see of a domain and of a desk.
use Rattle.std.specs.Prelude.{◌≡◌, ◌≢◌, ◌⊎◌, ℕ, zero, suc, ◌+◌, ◌==◌, min, true, cond, List}
use Rattle.std.specs.Prelude.{[], ◌∷◌, ◌++◌, map, length, Option, Some, None}
use Rattle.atomic_table.specs.Seated.{TableId}
use Rattle.control_word.specs.declared.model.event.Entry.{Entry}
use Rattle.control_word.specs.declared.model.event.Event.{Event}
use Rattle.control_word.specs.declared.model.handle.NumberedHandle.{NumberedHandle}
use Rattle.control_word.specs.declared.model.handle.Kind.{Kind}
use Rattle.control_word.specs.declared.place.Block.{Block}
use Rattle.control_word.specs.declared.place.Place.{Place}
use Rattle.control_word.specs.Handles.{IsPointer, empty, handle}
use Rattle.control_word.specs.declared.shape.Shape.{Shape}
use Rattle.control_word.specs.Events.{place_at}
use Rattle.control_word.specs.Histories.{entry, leads, value, IsLegal}
use Rattle.control_word.specs.State.{Has, Object, State, Held, Stored, Phase, bag, ending, gone, kind_of_member, live}
use Rattle.control_word.specs.State.{stock, sum_below, unmade}
use Rattle.control_word.specs.Views.{NoneBy}
use Rattle.control_word.specs.Words.{blocks_of}
use Rattle.control_block.specs.Rule.{opening_of}

pub record DomainNow : Type 0 where
  pub id : TableId
  pub shape : Shape

-- its name, what it has seen, newest first, and how many handles it holds, empty ones too
pub record DeskNow (V : Type 0) : Type 0 where
  pub domain : TableId
  pub shape : Shape
  pub name : ℕ
  pub seen : List (Entry V)
  pub held : ℕ

-- the blocks from 1 to n
abbrev pub all_blocks : ℕ → List Block
all_blocks zero = []
all_blocks (suc n) = all_blocks n ++ record { 0 = suc n } ∷ []

-- whether an object in this phase ends with the desk, as a number
abbrev pub ends_with : ℕ → Phase → ℕ
ends_with n unmade = 0
ends_with n live = 0
ends_with n gone = 0
ends_with n (ending d) = cond (d == n) 1 0

-- in how many blocks an object ends with the desk
abbrev pub many_ending : ℕ → State → ℕ → ℕ
many_ending blocks s n = sum_below blocks (λ j. ends_with n (s.object (s.latest (suc j))).phase)

-- a handle by its block, in place of its object
abbrev pub in_block : (ℕ → ℕ) → Option ℕ → Option ℕ
in_block block None = None
in_block block (Some o) = Some (block o)

abbrev pub by_block : (ℕ → ℕ) → NumberedHandle → NumberedHandle
by_block block h = record { kind = h.kind; object = in_block block h.object; place = h.place }

-- an owner of the object in block b with place p may give one with place q: p itself, the object's own, or any proper
-- one ([util.smartptr.shared.const], [util.smartptr.enab])
abbrev pub MayPoint : Option Place → ℕ → Option Place → Type 0
MayPoint p b q = (q ≡ p) ⊎ ((q ≡ place_at b) ⊎ IsPointer q)

module _ {V : Type 0} where
  -- the state as the desk has seen it
  abbrev pub state_of : DeskNow V → State
  state_of d = leads (opening_of d.shape) d.seen

  abbrev pub allowance_of : DeskNow V → ℕ
  allowance_of d = (state_of d).allowance d.name

  abbrev pub stock_of : DeskNow V → List Stored
  stock_of d = stock (state_of d) d.name

  -- how many objects end in its hands
  abbrev pub endings_of : DeskNow V → ℕ
  endings_of d = many_ending d.shape.blocks (state_of d) d.name

  -- what it counts of its allowance: each handle, empty ones too, and one place more while an object ends in its hands,
  -- since what a member held comes into them
  abbrev pub held_of : DeskNow V → ℕ
  held_of d = d.held + min 1 (endings_of d)

  -- the handles with an object that it holds, newest first, by their blocks
  abbrev pub bag_of : DeskNow V → List NumberedHandle
  bag_of d = map (λ (x : Held). by_block (blocks_of (state_of d)) x.handle) (bag (state_of d) d.name)

  -- the desk is one of the domain's
  pub record Belongs (d : DeskNow V) (domain : DomainNow) : Type 0 where
    pub table : d.domain ≡ domain.id
    pub shape : d.shape ≡ domain.shape

  -- a domain's first desk
  pub record IsFirstDesk (domain : DomainNow) (d : DeskNow V) : Type 0 where
    pub here : d.domain ≡ domain.id
    pub shape : d.shape ≡ domain.shape
    pub name : d.name ≡ 0
    pub seen : d.seen ≡ []
    pub held : d.held ≡ 0

  -- the desk's history after begins with all that it had seen, and ends with this call, the only one of its own that is
  -- new
  pub record AddsEvent (d : DeskNow V) (x : Event V) (e : DeskNow V) : Type 0 where
    pub same : (e.domain ≡ d.domain) × (e.shape ≡ d.shape) × (e.name ≡ d.name)
    pub between : List (Entry V)
    pub seen : e.seen ≡ entry d.name x ∷ (between ++ d.seen)
    pub quiet : NoneBy d.name between
    pub legal : IsLegal (opening_of d.shape) e.seen

  -- the object last made in a block, as far as the desk has seen
  abbrev pub latest_of : DeskNow V → ℕ → ℕ
  latest_of d b = (state_of d).latest b

  -- The desk has a handle of this kind and place in this block. It is on the object last made there, since no block is
  -- used again while a handle is left
  abbrev pub HasHandle : DeskNow V → Kind → Option Place → ℕ → Type 0
  HasHandle d k p b = Has (handle k (Some b) p) (bag_of d)

  -- the handle on the object last made in the block
  abbrev pub on_latest : DeskNow V → Kind → Option Place → ℕ → NumberedHandle
  on_latest d k p b = handle k (Some (latest_of d b)) p

  -- the object last made in the block ends in the desk's hands, and has this value
  pub record IsEnding (d : DeskNow V) (b : ℕ) (x : V) : Type 0 where
    pub phase : ((state_of d).object (latest_of d b)).phase ≡ ending d.name
    pub kept : value (opening_of d.shape) d.seen (latest_of d b) ≡ Some x

  -- the object last made in the block
  abbrev pub object_in : DeskNow V → ℕ → Object
  object_in d b = (state_of d).object (latest_of d b)

  -- what its member m holds, and that this is nothing
  abbrev pub member_in : DeskNow V → ℕ → ℕ → NumberedHandle
  member_in d b m = (object_in d b).member m

  abbrev pub IsCleared : DeskNow V → ℕ → ℕ → Type 0
  IsCleared d b m = member_in d b m ≡ empty (kind_of_member d.shape.owners m)

  -- it ends in the desk's hands, in a domain of the same shape, with the members that it had
  pub record StaysEnding (d e : DeskNow V) (b : ℕ) (x : V) : Type 0 where
    pub ends : IsEnding e b x
    pub shape : e.shape ≡ d.shape
    pub members : (m : ℕ) → member_in e b m ≡ member_in d b m

  -- what ends in the desk's hands ends there still
  abbrev pub KeepsEndings : DeskNow V → DeskNow V → Type 0
  KeepsEndings d e = (b : ℕ) (x : V) → IsEnding d b x → StaysEnding d e b x

  -- the same, but for a block
  abbrev pub KeepsOtherEndings : DeskNow V → ℕ → DeskNow V → Type 0
  KeepsOtherEndings d c e = (b : ℕ) (x : V) → b ≢ c → IsEnding d b x → StaysEnding d e b x

  -- the same desk, with the allowance that it had
  pub record IsSameDesk (d e : DeskNow V) : Type 0 where
    pub domain : e.domain ≡ d.domain
    pub shape : e.shape ≡ d.shape
    pub name : e.name ≡ d.name
    pub allowance : allowance_of e ≡ allowance_of d

  -- and the number of vacant blocks is as it was too, and what ended in its hands ends there still
  pub record KeepsStock (d e : DeskNow V) : Type 0 where
    pub domain : e.domain ≡ d.domain
    pub shape : e.shape ≡ d.shape
    pub name : e.name ≡ d.name
    pub allowance : allowance_of e ≡ allowance_of d
    pub stock : length (stock_of e) ≡ length (stock_of d)
    pub endings : KeepsEndings d e

  -- and nothing more ends there
  pub record Keeps (d e : DeskNow V) : Type 0 where
    pub domain : e.domain ≡ d.domain
    pub shape : e.shape ≡ d.shape
    pub name : e.name ≡ d.name
    pub allowance : allowance_of e ≡ allowance_of d
    pub stock : length (stock_of e) ≡ length (stock_of d)
    pub endings : KeepsEndings d e
    pub count : endings_of e ≡ endings_of d

  -- the desk has a handle of the object in the block, or it ends in its hands
  abbrev pub IsNear : DeskNow V → ℕ → Type 0
  IsNear d b = ((k : Kind) × (p : Option Place) × HasHandle d k p b) ⊎ ((x : V) × IsEnding d b x)

  -- a weak handle with place q may come from a handle that the desk has in the block, or by from-this from an object
  -- that ends in its hands ([util.smartptr.weak.const], [util.smartptr.enab])
  abbrev pub MayGiveWeak : DeskNow V → ℕ → Option Place → Type 0
  MayGiveWeak d b q =
      ((k : Kind) × (p : Option Place) × HasHandle d k p b × ((q ≡ p) ⊎ (q ≡ place_at b)))
      ⊎ ((x : V) × IsEnding d b x × ((object_in d b).enabled ≡ true) × (q ≡ place_at b))
