-- What is true of the fields of a domain and of a desk.
use Rattle.std.specs.Prelude.{◌≡◌, ℕ, ◌+◌, ◌≤◌, ◌==◌, min, length, vec_capacity}
use Rattle.std.specs.List.{filter}
use Rattle.atomic_table.specs.Seated.{TableId}
use Rattle.control_word.specs.declared.place.Block.{Block}
use Rattle.control_word.specs.declared.shape.Shape.{Shape}
use Rattle.control_word.specs.Histories.{IsLegal}
use Rattle.control_word.specs.Layout.{IsWithinLimits, table_size}
use Rattle.control_word.specs.State.{bag_size, same_stored, stock, stored}
use Rattle.control_block.specs.declared.desk.Desk.TheInside.{Inside}
use Rattle.control_block.specs.Desks.{DeskNow, many_ending}
use Rattle.control_block.specs.StepKinds.{Rests, known}
use Rattle.control_block.specs.Rule.{opening_of}

-- the table is as large as the shape says
pub record IsSized (id : TableId) (k : Shape) : Type 0 where
  pub words : id.words ≡ table_size k
  pub slots : id.slots ≡ k.blocks

pub record IsDomain (key : Shape) (id : TableId) (k : Shape) : Type 0 where
  pub told : key ≡ k
  pub sized : IsSized id k
  pub limits : IsWithinLimits k

module _ {V : Type 0} where
  abbrev pub desk_now : Inside V → DeskNow V
  desk_now d = record {
    domain = d.seat.table_id;
    shape = d.seat.me.0.shape;
    name = d.seat.me.0.view.name;
    seen = d.seat.me.0.view.seen;
    held = d.held;
  }

  -- No call is half done, no slot in hand; the numbers are those of the history seen; the store lists the stock; and n
  -- handles too many are on their way out
  pub record IsDeskWith (n : ℕ) (d : Inside V) : Type 0 where
    pub rests : Rests d.seat.me
    pub legal : IsLegal (opening_of d.seat.me.0.shape) d.seat.me.0.view.seen
    pub limits : IsWithinLimits d.seat.me.0.shape
    pub sized : IsSized d.seat.table_id d.seat.me.0.shape
    pub allowed : d.allowance ≡ (known d.seat.me.0).allowance d.seat.me.0.view.name
    pub holding : bag_size (known d.seat.me.0) d.seat.me.0.view.name ≤ d.held
    pub ended : d.endings ≡ many_ending d.seat.me.0.shape.blocks (known d.seat.me.0) d.seat.me.0.view.name
    pub within : d.held + min 1 d.endings ≤ n + d.allowance
    pub stored : (b : ℕ) → length (filter (λ (c : Block). c.0 == b) d.store.items)
        ≡ length (filter (same_stored (stored d.seat.me.0.view.name b)) (known d.seat.me.0).stores)
    pub many : length d.store.items ≡ length (stock (known d.seat.me.0) d.seat.me.0.view.name)
    pub room : d.seat.me.0.shape.blocks ≤ vec_capacity d.store

  abbrev pub IsDesk : Inside V → Type 0
  IsDesk d = IsDeskWith 0 d
