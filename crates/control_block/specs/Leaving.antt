-- How handles leave: by themselves, or as they came out of a cell.
use Rattle.std.specs.Prelude.{◌≡◌, ◌⊎◌, ℕ, ◌-◌, ◌<◌, Bool, false, cond, List, [], ◌∷◌, is_some}
use Rattle.std.specs.Prelude.{IfSome, Option, None, Some}
use Rattle.control_word.specs.Handles.{handle}
use Rattle.control_word.specs.Histories.{value}
use Rattle.control_word.specs.declared.packed.cell.CellWord.{CellWord}
use Rattle.control_word.specs.declared.model.event.Event.{Event}
use Rattle.control_word.specs.declared.model.event.Event.TheVariants.{Leave, WeakLeave}
use Rattle.control_word.specs.declared.model.handle.NumberedHandle.{NumberedHandle}
use Rattle.control_word.specs.declared.model.handle.Kind.{Kind}
use Rattle.control_word.specs.declared.model.handle.Kind.TheVariants.{Owner, Weak}
use Rattle.control_word.specs.declared.place.Block.{Block}
use Rattle.control_word.specs.declared.place.Place.{Place}
use Rattle.control_block.specs.CellCalls.{object_by}
use Rattle.control_block.specs.CellStepKinds.{debt}
use Rattle.control_block.specs.CellRetries.{CameOut}
use Rattle.control_block.specs.FundStepKinds.{Owes, owing}
use Rattle.control_block.specs.StepKinds.{At, HoldingInBlock, Rests, known, tells}
use Rattle.control_block.specs.Rule.{opening_of}
use Rattle.control_block.specs.declared.table.SeatView.{SeatView}
use Rattle.control_block.specs.declared.released.Released.{Released}
use Rattle.control_word.specs.Limits.{cell_funds}

-- the block that a cell's word shows, or none of the table's
abbrev pub block_out : CellWord → Block
block_out x = elim (x.owned) [ None ↦ record { 0 = 0 } | Some b ↦ b ]

-- the block that is vacant now, if it is
abbrev pub freed : Option Block → Bool → List Block
freed None vacant = []
freed (Some b) vacant = cond vacant (b ∷ []) []

module _ {V : Type 0} where
  -- a handle of the object in block b may leave with so many funds: no call is half done and the desk has it, with all
  -- of them, or it came out of a cell, and has so many
  abbrev pub MayLeave : At V → Kind → ℕ → Option Place → ℕ → ℕ → Type 0
  MayLeave me k o p b funds = (Rests me × HoldingInBlock me.0 k o p b × (funds ≡ cell_funds))
      ⊎ (Owes (owing k o p b funds 0) me × (funds < cell_funds))

  -- the handle that a cell's word shows, by the blocks that the seat knows
  abbrev pub shown_handle : SeatView V → Kind → CellWord → NumberedHandle
  shown_handle v k x = handle k (object_by (known v).latest x.owned) x.place

  -- it came out, with its funds that were not taken
  abbrev pub OwesFor : Kind → CellWord → At V → Type 0
  OwesFor k x me = Owes (debt (shown_handle me.0 k x) x.owned (cell_funds - x.taken)) me

  abbrev pub nothing : Released V
  nothing = record { value = None; vacant = false }

  -- an owner's leave makes no block vacant, and a weak handle's gives no value
  abbrev pub IsReleasedBy : Kind → Released V → Type 0
  IsReleasedBy Owner r = r.vacant ≡ false
  IsReleasedBy Weak r = r.value ≡ None

  -- the event of a leave that released this
  abbrev pub leave_of : Kind → NumberedHandle → Released V → Event V
  leave_of Owner h r = Leave h (is_some r.value)
  leave_of Weak h r = WeakLeave h r.vacant

  -- a handle left, an empty one by no step; a value that it released is the object's
  abbrev pub LetGo : Kind → SeatView V → Option Block → Option Place → Released V → SeatView V → Type 0
  LetGo k v None p r w = (r ≡ nothing) × (w ≡ v)
  LetGo k v (Some b) p r w =
      let o = (known v).latest b.0 in tells (leave_of k (handle k (Some o) p) r) v w × IsReleasedBy k r
      × IfSome r.value (λ x. value (opening_of v.shape) w.view.seen o ≡ Some x)

  -- the handle that the word showed came out, by this event, and then it left
  pub record OutAndGone (e : NumberedHandle → Event V) (k : Kind) (v : SeatView V) (x : CellWord) (r : Released V)
      (w : SeatView V) : Type 0 where
    pub between : SeatView V
    pub out : CameOut e k v x between
    pub gone : LetGo k between x.owned x.place r w
