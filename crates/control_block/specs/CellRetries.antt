-- What the steps of one call on a cell come to.
use Rattle.std.specs.Prelude.{◌≡◌, ℕ, ◌<◌, IfSome}
use Rattle.atomic_table.specs.Seated.{TableId}
use Rattle.control_word.specs.Events.{InHand}
use Rattle.control_word.specs.Handles.{object_of}
use Rattle.control_word.specs.Layout.{spot}
use Rattle.control_word.specs.Words.{slot}
use Rattle.control_word.specs.declared.place.Block.{Block}
use Rattle.control_word.specs.declared.packed.cell.CellWord.{CellWord}
use Rattle.control_word.specs.declared.model.event.Event.{Event}
use Rattle.control_word.specs.declared.model.handle.NumberedHandle.{NumberedHandle}
use Rattle.control_word.specs.declared.model.handle.Kind.{Kind}
use Rattle.control_word.specs.Packing.{IsCellWord}
use Rattle.control_word.specs.declared.model.event.Cell.{Cell}
use Rattle.control_block.specs.CellStepKinds.{IsCellAt, IsWordOf, kind_in}
use Rattle.control_block.specs.Inside.{IsSized}
use Rattle.control_block.specs.StepKinds.{At, HasRoomFor, HoldingInBlock, Rests, known, tells}
use Rattle.control_block.specs.declared.table.SeatView.{SeatView}

-- the word that counts handles of this kind in the block is the table's
abbrev pub IsCounted : Kind → Block → TableId → Type 0
IsCounted k b id = (0 < b.0) × (spot b.0 (slot k) < id.words)

module _ {V : Type 0} where
  -- the handle that the word showed came out, by this event, and the call is over
  pub record CameOut (e : NumberedHandle → Event V) (k : Kind) (v : SeatView V) (x : CellWord) (w : SeatView V) : Type
      0 where
    pub handle : NumberedHandle
    pub kind : handle.kind ≡ k
    pub shows : IsWordOf w handle x
    pub event : tells (e handle) v w

  -- between two tries at a cell no call is half done, and the table's word i is the cell's, with handles of this kind
  pub record IsAim (c : Cell) (k : Kind) (i : ℕ) (id own : TableId) (me : At V) : Type 0 where
    pub table : own ≡ id
    pub sized : IsSized id me.0.shape
    pub rests : Rests me
    pub word : i < id.words
    pub cell : IsCellAt me.0 c i
    pub kind : k ≡ kind_in me.0.shape c

  -- the handle that the word showed came out, and no call is half done
  pub record IsOut (e : NumberedHandle → Event V) (k : Kind) (v : SeatView V) (x : CellWord) (me : At V) : Type 0 where
    pub valid : IsCellWord x
    pub rests : Rests me
    pub out : CameOut e k v x me.0

  -- what a compare of a cell is given: what it expects is in hand, and what is to go in, with its word
  pub record IsOffer (k : Kind) (expected new : NumberedHandle) (x : CellWord) (id : TableId) (v : SeatView V) : Type 0
    where
      pub valid : IsCellWord x
      pub taken : x.taken ≡ 0
      pub shows : IsWordOf v new x
      pub expected_hand : InHand (known v) v.view.name k expected
      pub new_hand : InHand (known v) v.view.name k new
      pub holds : IfSome x.owned (λ b. HoldingInBlock v new.kind (object_of new) new.place b.0)
      pub count : IfSome x.owned (λ b. IsCounted k b id)
      pub room : HasRoomFor v
