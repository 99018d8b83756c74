-- The rule of the table: what holds between any two steps.
use Rattle.std.specs.Prelude.{◌≡◌, ◌⊎◌, ℕ, ◌+◌, ◌-◌, ◌==◌, true, false, cond, List, [], map, length}
use Rattle.std.specs.Prelude.{Option, Some, None}
use mathlib.Core.Option.{some}
use lib.ListN.{get_elem?}
use Rattle.atomic_table.specs.Table as Table
use Rattle.control_word.specs.declared.model.event.Entry.{Entry}
use Rattle.control_word.specs.declared.place.Block.{Block}
use Rattle.control_word.specs.declared.shape.Shape.{Shape}
use Rattle.control_word.specs.declared.model.view.Pending.{Pending}
use Rattle.control_word.specs.declared.model.view.Pending.TheVariants.{Idle, Making, Visiting}
use Rattle.control_word.specs.declared.model.view.View.{View}
use Rattle.control_word.specs.Histories.{leads, value}
use Rattle.control_word.specs.Layout.{IsWithinLimits, spot}
use Rattle.control_word.specs.State.{Opening, State, Phase, unmade, live, gone, ending, InShape}
use Rattle.control_word.specs.HandFunds.{StandsFunded}
use Rattle.control_word.specs.Views.{sees_as}
use Rattle.control_block.specs.declared.table.SeatView.{SeatView}

-- how many members an object has
abbrev pub members_of : Shape → ℕ
members_of k = k.owners + k.weaks

-- a domain begins with one desk, which has all blocks and the whole allowance; a block that becomes vacant may keep the
-- 1 in its weak word
abbrev pub opening_of : Shape → Opening
opening_of k =
    record {
      blocks = k.blocks;
      members = members_of k;
      owners = k.owners;
      shared_cells = k.shared_cells;
      cells = k.shared_cells + k.weak_cells;
      allowance = k.allowance;
      desks = 1;
      holder = λ b. 0;
      share = λ d. cond (d == 0) k.allowance 0;
      keeps_blocks = true;
    }

-- the slot in hand is that of block b
abbrev pub IsSlotOf : Option Block → ℕ → Type 0
IsSlotOf None b = ⊥
IsSlotOf (Some c) b = c.0 ≡ b

module _ {V : Type 0} where
  abbrev pub view_of : SeatView V → View V
  view_of u = u.view

  abbrev pub until_gone : Phase → Option V → Option V
  until_gone unmade v = None
  until_gone live v = v
  until_gone gone v = None
  until_gone (ending d) v = v

  -- what the slot of block b keeps: the value of the object last made in it, until that is gone
  abbrev pub kept : Opening → List (Entry V) → ℕ → Option V
  kept z h b = let o = (leads z h).latest b in until_gone ((leads z h).object o).phase (value z h o)

  -- the half-done call has the slot of block c: a make in it, or a visit of its object
  abbrev pub IsUsing : Pending V → ℕ → Type 0
  IsUsing (Making b known) c = b.0 ≡ c
  IsUsing (Visiting o p word v) c = word ≡ spot c 2
  IsUsing _ c = ⊥

  -- who has a slot in hand is making an object in its block or visiting the one there, or has its ending
  abbrev pub IsBacked : State → ℕ → Pending V → Option Block → Type 0
  IsBacked s d p None = Unit {0}
  IsBacked s d p (Some c) = IsUsing p c.0 ⊎ ((s.object (s.latest c.0)).phase ≡ ending d)

  -- one unspent seat has the slot of block b
  abbrev pub IsOut : List (SeatView V) → ℕ → Type 0
  IsOut seat_views b = (j : ℕ) × (u : SeatView V) × (get_elem? seat_views j ≡ some u)
      × (u.view.spent ≡ false) × IsSlotOf u.hand b

  pub record Ruled (k : Shape) (s : Table.State (Option V) (SeatView V)) : Type 0 where
    pub history : List (Entry V)
    -- the words and what the desks know stand for the history
    pub stands : StandsFunded (opening_of k) s.words (map view_of s.views) history
    pub limits : IsWithinLimits k
    pub shapes : (j : ℕ) (u : SeatView V) → get_elem? s.views j ≡ some u → u.view.spent ≡ false → u.shape ≡ k
    pub sized : length s.homes ≡ k.blocks
    -- each slot is at home with what it keeps, or out with a desk
    pub homes : (b : ℕ) → InShape (opening_of k) b
        → (get_elem? s.homes (b - 1) ≡ some (some (kept (opening_of k) history b))) ⊎ IsOut s.views b
    pub backed : (j : ℕ) (u : SeatView V) → get_elem? s.views j ≡ some u → u.view.spent ≡ false
        → IsBacked (leads (opening_of k) history) u.view.name u.view.pending u.hand

  -- a seat with this half-done call, this slot in hand, and this history seen
  abbrev pub seeing : SeatView V → Pending V → Option Block → List (Entry V) → SeatView V
  seeing v p c h = record { shape = v.shape; view = sees_as v.view p h; hand = c }

  abbrev pub opens_with : Shape → SeatView V
  opens_with k = record { shape = k; view = record { name = 0; spent = false; pending = Idle; seen = [] }; hand = None }
