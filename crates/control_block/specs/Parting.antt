-- What a split and a join of desks say.
use Rattle.std.specs.Prelude.{◌≡◌, ◌⊎◌, ℕ, ◌+◌, ◌-◌, ◌<◌, ◌≤◌, ◌==◌, max, List, []}
use Rattle.std.specs.Prelude.{◌∷◌, map, length, Option, Some, None}
use Rattle.std.specs.List.{filter}
use Rattle.control_word.specs.declared.model.event.Entry.{Entry}
use Rattle.control_word.specs.declared.model.event.Event.TheVariants.{Join, Split}
use Rattle.control_word.specs.declared.model.handle.NumberedHandle.{NumberedHandle}
use Rattle.control_word.specs.declared.model.handle.Kind.TheVariants.{Owner, Weak}
use Rattle.control_word.specs.declared.place.Block.{Block}
use Rattle.control_word.specs.Handles.{handle, has_object, same_handle}
use Rattle.control_word.specs.Histories.{entry, IsLegal}
use Rattle.control_word.specs.State.{Has, HasAll, State, Stored, without}
use Rattle.control_word.specs.Views.{Knows, comes}
use Rattle.control_block.specs.declared.table.SeatView.{SeatView}
use Rattle.control_block.specs.declared.handles.Held.{Held}
use Rattle.control_block.specs.declared.handles.Held.TheVariants as held
use Rattle.control_block.specs.Desks.{AddsEvent, DeskNow, KeepsEndings, allowance_of, bag_of, endings_of, held_of}
use Rattle.control_block.specs.Desks.{by_block}
use Rattle.control_block.specs.Desks.{state_of, stock_of}
use Rattle.control_block.specs.StepKinds.{tells}
use Rattle.control_block.specs.Rule.{opening_of}

-- how often a block is listed
abbrev pub times : ℕ → List Block → ℕ
times b l = length (filter (λ (c : Block). c.0 == b) l)

abbrev pub number_of_block : Option Block → Option ℕ
number_of_block None = None
number_of_block (Some b) = Some b.0

-- a handle by its block, as a desk's bag lists it
abbrev pub as_listed : Held → NumberedHandle
as_listed (held.Owner h) = handle Owner (number_of_block h.block) h.place
as_listed (held.Weak w) = handle Weak (number_of_block w.block) w.place

-- those of them that a bag lists: a handle without an object is empty
abbrev pub listed : List Held → List NumberedHandle
listed hs = filter has_object (map as_listed hs)

-- the same by their objects, as a history has them: of a block that is held the object last made there
abbrev pub in_history : State → List Held → List NumberedHandle
in_history s hs = map (by_block s.latest) (listed hs)

-- each of these is in the list, as often as it is given
abbrev pub AreIn : List NumberedHandle → List NumberedHandle → Type 0
AreIn hs l = HasAll same_handle (λ (h : NumberedHandle). h) hs l

-- the list without these, each taken out once
abbrev pub without_all : List NumberedHandle → List NumberedHandle → List NumberedHandle
without_all [] l = l
without_all (h ∷ hs) l = without_all hs (without same_handle h l)

module _ {V : Type 0} where
  -- the desk holds these handles, and as many empty ones as are among them
  pub record HoldsAll (d : DeskNow V) (hs : List Held) : Type 0 where
    pub objects : AreIn (listed hs) (bag_of d)
    pub empty : length hs - length (listed hs) ≤ d.held - length (bag_of d)

  -- what the desk can give with n handles: it keeps an allowance for those that stay, 1 at least
  abbrev pub free_of : DeskNow V → ℕ → ℕ
  free_of d n = allowance_of d - max 1 (held_of d - n)

  -- no allowance is given, or less than the handles need, or more than is free
  abbrev pub IsTooMuch : DeskNow V → ℕ → ℕ → Type 0
  IsTooMuch d a n = (a ≡ 0) ⊎ ((a < n) ⊎ (free_of d n < a))

  -- d has become e and a new desk, which has seen the same: it has allowance a, the k least blocks and these handles
  pub record SplitsOff (d : DeskNow V) (a k : ℕ) (hs : List Held) (e new : DeskNow V) : Type 0 where
    pub blocks : List Block
    pub event : AddsEvent d (Split new.name a (in_history (state_of d) hs) blocks) e
    pub beside : (new.domain ≡ d.domain) × (new.shape ≡ d.shape) × (new.seen ≡ e.seen)
    pub named : (state_of d).names ≤ new.name
    pub allowance : (allowance_of new ≡ a) × (allowance_of e + a ≡ allowance_of d)
    pub held : (new.held ≡ length hs) × (e.held + length hs ≡ d.held)
    pub bag : (bag_of new ≡ listed hs) × (bag_of e ≡ without_all (listed hs) (bag_of d))
    pub stock : (length (stock_of new) ≡ k) × (length (stock_of e) + k ≡ length (stock_of d))
    pub least : (x y : Stored) → Has x (stock_of new) → Has y (stock_of e) → x.block ≤ y.block
    pub endings : KeepsEndings d e
    pub count : (endings_of e ≡ endings_of d) × (endings_of new ≡ 0)

  -- d and another desk have become e: one history goes on from all that either had seen, with no event of either
  -- between, and ends with the join
  pub record JoinsWith (d other e : DeskNow V) : Type 0 where
    pub same : (e.domain ≡ d.domain) × (e.shape ≡ d.shape) × (e.name ≡ d.name)
    pub before : List (Entry V)
    pub seen : e.seen ≡ entry d.name (Join other.name) ∷ before
    pub mine : Knows d.name before d.seen
    pub others : Knows other.name before other.seen
    pub legal : IsLegal (opening_of d.shape) e.seen

  -- two seats after a split: the first has made the event, and the second stands for the new name and has seen the
  -- same
  pub record Parted (v : SeatView V) (a : ℕ) (hs : List NumberedHandle) (bs : List Block) (w u : SeatView V) : Type 0
    where
      pub to : ℕ
      pub event : tells (Split to a hs bs) v w
      pub other : u ≡ record { shape = w.shape; view = comes w.view to; hand = None }
