-- What the steps on a cell tell.
use Rattle.std.specs.Prelude.{◌≡◌, ◌≢◌, ℕ, ◌+◌, ◌-◌, ◌%◌, ◌<◌, ◌==◌, ◌++◌, Bool, true, false, List}
use Rattle.std.specs.Prelude.{Option, Some, None}
use Rattle.atomic_table.specs.Table.{Step}
use Rattle.control_word.specs.declared.packed.cell.CellWord.{CellWord}
use Rattle.control_word.specs.declared.model.event.Cell.{Cell}
use Rattle.control_word.specs.declared.model.event.Cell.TheVariants.{Free, Member}
use Rattle.control_word.specs.declared.model.event.Entry.{Entry}
use Rattle.control_word.specs.declared.model.event.Event.{Event}
use Rattle.control_word.specs.declared.model.event.Event.TheVariants.{ClearMember, Load, Compare, Same}
use Rattle.control_word.specs.declared.model.handle.NumberedHandle.{NumberedHandle}
use Rattle.control_word.specs.declared.model.handle.Kind.{Kind}
use Rattle.control_word.specs.declared.model.handle.Kind.TheVariants.{Owner}
use Rattle.control_word.specs.declared.place.Block.{Block}
use Rattle.control_word.specs.declared.place.Place.{Place}
use Rattle.control_word.specs.declared.shape.Shape.{Shape}
use Rattle.control_word.specs.declared.model.view.Pending.{Pending}
use Rattle.control_word.specs.declared.model.view.Pending.TheVariants.{Idle}
use Rattle.control_word.specs.Events.{cell_of}
use Rattle.control_word.specs.Handles.{empty, handle, equivalent, object_of}
use Rattle.control_word.specs.Histories.{leads, IsLegal}
use Rattle.control_word.specs.Layout.{cell_place, spot}
use Rattle.control_word.specs.Packing.{IsCellWord, IsPackedCell, cell_bits, without_taken}
use Rattle.control_word.specs.State.{kind_of_free, kind_of_member}
use Rattle.control_word.specs.Views.{NoneBy}
use Rattle.control_word.specs.HandFunds.{short_of}
use Rattle.control_word.specs.Words.{blocks_of, packed, shown, slot}
use Rattle.control_block.specs.StepKinds.{At, Added, HoldingInBlock, in_call, known, tells}
use Rattle.control_block.specs.FundStepKinds.{owing}
use Rattle.control_block.specs.Rule.{members_of, opening_of}
use Rattle.control_block.specs.declared.table.SeatView.{SeatView}
use Rattle.control_word.specs.Limits.{cell_funds}

-- the kind of the handles in a cell
abbrev pub kind_in : Shape → Cell → Kind
kind_in k (Free c) = kind_of_free k.shared_cells c
kind_in k (Member o m) = kind_of_member k.owners m

-- n is the word of a cell, and so is told of it
abbrev pub of_cell : (CellWord → Type 0) → ℕ → Type 0
of_cell told n = IsPackedCell n × ((x : CellWord) → IsCellWord x → n ≡ cell_bits x → told x)

module _ {V : Type 0} where
  -- by what it has seen the cell is open to the desk, and its word is the table's word i
  abbrev pub IsCellAt : SeatView V → Cell → ℕ → Type 0
  IsCellAt v (Free c) i = (c < v.shape.shared_cells + v.shape.weak_cells) × (i ≡ cell_place v.shape.blocks c)
  IsCellAt v (Member o m) i =
      (m < members_of v.shape) × ((p : Option Place) × (b : ℕ) × HoldingInBlock v Owner o p b × (i ≡ spot b (7 + m)))

  -- the word of a cell with this handle, by the blocks that the seat knows
  abbrev pub IsWordOf : SeatView V → NumberedHandle → CellWord → Type 0
  IsWordOf v h x = x ≡ shown (blocks_of (known v)) h x.taken

  -- the word shows what the cell holds, in the state that all of the history so far leads to
  pub record IsHeld (c : Cell) (v : SeatView V) (x : CellWord) : Type 0 where
    pub between : List (Entry V)
    pub quiet : NoneBy v.view.name between
    pub legal : IsLegal (opening_of v.shape) (between ++ v.view.seen)
    pub shows : let s = leads (opening_of v.shape) (between ++ v.view.seen) in
        x ≡ shown (blocks_of s) (cell_of s c) x.taken

  -- a handle of which the word of a cell tells the block has so many of its funds: with all of them nothing is owed
  abbrev pub debt : NumberedHandle → Option Block → ℕ → Pending V
  debt h None f = Idle
  debt h (Some b) f = short_of h.kind (object_of h) h.place (spot b.0 (slot h.kind)) f

  -- a load of the handle that the word showed is under way, by this event
  pub record Took (e : NumberedHandle → Event V) (k : Kind) (v : SeatView V) (x : CellWord) (w : SeatView V) : Type 0
    where
      pub object : ℕ
      pub block : Block
      pub owned : x.owned ≡ Some block
      pub there : ((known w).object object).block ≡ block.0
      pub event : Added v (owing k object x.place block.0 1 1) None (e (handle k (Some object) x.place)) w

  -- the handle that the word showed came out, by this event, with its funds that were not taken
  pub record Gave (e : NumberedHandle → Event V) (k : Kind) (v : SeatView V) (x : CellWord) (w : SeatView V) : Type 0
    where
      pub old : NumberedHandle
      pub kind : old.kind ≡ k
      pub shows : IsWordOf w old x
      pub event : Added v (debt old x.owned (cell_funds - x.taken)) None (e old) w

  -- what the cell holds, and nothing changes
  abbrev pub as_peeked : Cell → At V → CellWord → At V → Type 0
  as_peeked c m x m' = IsHeld c m.0 x × (m' ≡ m)

  abbrev pub cell_peeked : Cell → Step (Option V) → At V → ℕ → At V → Type 0
  cell_peeked c st m n m' = of_cell (λ x. as_peeked c m x m') n

  -- what the cell holds: the load of one that shows no object; of one that shows an object nothing
  abbrev pub as_loaded : Cell → At V → CellWord → At V → Type 0
  as_loaded c m x m' =
      IsHeld c m.0 x × (x.owned ≡ None → tells (Load c (handle (kind_in m.0.shape c) None x.place)) m.0 m'.0
      × (m'.1 ≡ m.1)) × (x.owned ≢ None → m' ≡ m)

  abbrev pub loaded_empty : Cell → Step (Option V) → At V → ℕ → At V → Type 0
  loaded_empty c st m n m' = of_cell (λ x. as_loaded c m x m') n

  -- what the cell holds: a compare of one that shows no object, where it differs; else nothing
  abbrev pub as_differed : Cell → NumberedHandle → NumberedHandle → Bool → At V → CellWord → At V → Type 0
  as_differed c expected new weak m x m' =
      let h = handle (kind_in m.0.shape c) None x.place in
      IsHeld c m.0 x × (x.owned ≡ None → equivalent h expected ≡ false
      → tells (Compare c expected new h false weak) m.0 m'.0 × (m'.1 ≡ m.1))
      × (x.owned ≡ None → equivalent h expected ≡ true → m' ≡ m) × (x.owned ≢ None → m' ≡ m)

  abbrev pub differed_empty : Cell → NumberedHandle → NumberedHandle → Bool → Step (Option V) → At V
      → ℕ → At V → Type 0
  differed_empty c expected new weak st m n m' = of_cell (λ x. as_differed c expected new weak m x m') n

  -- whether the cell holds this handle, by its word but for the funds taken
  abbrev pub told_same : Cell → NumberedHandle → Step (Option V) → At V → ℕ → At V → Type 0
  told_same c h st m n m' =
      tells (Same c h (without_taken n == packed (blocks_of (known m.0)) h)) m.0 m'.0 × (m'.1 ≡ m.1)

  -- a fund of the cell was taken, where its word was the one that was found; else it is another, and nothing changes
  abbrev pub took : Cell → (NumberedHandle → Event V) → Step (Option V) → At V → ℕ → At V → Type 0
  took c e st m n m' =
      (n ≡ st.first → (x : CellWord) → IsCellWord x → n ≡ cell_bits x
      → Took e (kind_in m.0.shape c) m.0 x m'.0 × (m'.1 ≡ m.1))
      × (n ≢ st.first → IsPackedCell n × (m' ≡ m))

  -- the cell was swapped
  abbrev pub swapped : Cell → (NumberedHandle → Event V) → Step (Option V) → At V → ℕ → At V → Type 0
  swapped c e st m n m' = of_cell (λ x. Gave e (kind_in m.0.shape c) m.0 x m'.0 × (m'.1 ≡ m.1)) n

  -- the same where its word was the one that was found; else nothing changes
  abbrev pub compare_swapped : Cell → (NumberedHandle → Event V) → Step (Option V) → At V → ℕ → At V → Type 0
  compare_swapped c e st m n m' =
      (n ≡ st.first → (x : CellWord) → IsCellWord x → n ≡ cell_bits x
      → Gave e (kind_in m.0.shape c) m.0 x m'.0 × (m'.1 ≡ m.1))
      × (n ≢ st.first → m' ≡ m)

  -- the member of an ending object holds nothing, and is cleared by the look; else nothing changes
  abbrev pub looked_clear : ℕ → ℕ → Step (Option V) → At V → ℕ → At V → Type 0
  looked_clear o q st m n m' =
      (n ≡ 0 → tells (ClearMember o q (empty (kind_of_member m.0.shape.owners q))) m.0 m'.0 × (m'.1 ≡ m.1))
      × (n ≢ 0 → m' ≡ m)

  -- the member of an ending object was cleared
  abbrev pub cleared : ℕ → ℕ → Step (Option V) → At V → ℕ → At V → Type 0
  cleared o q st m n m' = swapped (Member o q) (λ h. ClearMember o q h) st m n m'

  -- so many funds of a handle in hand are in the cell, where its word was the one that was found, and the desk has seen
  -- no more; else nothing changes
  abbrev pub refilled : Kind → ℕ → Option Place → Block → ℕ → Step (Option V) → At V → ℕ → At V → Type 0
  refilled k o p b taken st m n m' =
      (n ≡ st.first → (m'.0 ≡ in_call m.0 (owing k o p b.0 (cell_funds - taken) 0)) × (m'.1 ≡ m.1))
      × (n ≢ st.first → m' ≡ m)
