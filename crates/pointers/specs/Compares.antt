-- What the compares of cells say, by what is known of handles ([util.smartptr.atomic.shared],
-- [util.smartptr.atomic.weak]).
use Rattle.std.specs.Prelude.{◌≡◌, ◌⊎◌, Bool, true, false, Option, None, Some}
use Rattle.control_word.specs.Handles.{equivalent}
use Rattle.control_word.specs.declared.model.event.Cell.{Cell}
use Rattle.control_word.specs.declared.model.handle.Kind.{Kind}
use Rattle.control_word.specs.declared.model.handle.Kind.TheVariants.{Owner}
use Rattle.control_word.specs.declared.place.Block.{Block}
use Rattle.control_word.specs.declared.place.Place.{Place}
use Rattle.control_block.specs.CellCalls.{handle_in}
use Rattle.control_block.specs.Desks.{DeskNow}
use Rattle.atomic_cells.specs.Compares.{Compares}
use Rattle.pointers.specs.Beside.{Stays}
use Rattle.pointers.specs.Cells.{CameTo, LoadedAt, block_by, place_by}
use Rattle.pointers.specs.Known.{GoesOn}
use Rattle.pointers.specs.declared.known.Known.{Known}

module _ {V : Type 0} where
  -- since the owner and both pointers came, cell x was compared with the pointer that was expected, by one step on it,
  -- and held (b, q). Where that was equivalent, the pointer that was desired is in it now; the weak form may fail there
  pub record IsCompared (o : DeskNow V) (of : Option (Known V)) (x : Cell) (k : Kind) (weak : Bool)
      (hoped new : Option (Known V)) (swapped : Bool) (b : Option Block) (q : Option Place)
      (after : DeskNow V) : Type 0 where
    pub before : DeskNow V
    pub opened : GoesOn o before
    pub member : Stays o of before
    pub expected : Stays o hoped before
    pub desired : Stays o new before
    pub compares : Compares before x k (block_by hoped) (place_by hoped) (block_by new) (place_by new) swapped b q weak
        after
    pub told : (swapped ≡ equivalent (handle_in after k b q) (handle_in before k (block_by hoped) (place_by hoped)))
        ⊎ ((weak ≡ true) × (swapped ≡ false))

  -- the same, by what is found: none where they were swapped; else a copy of what the cell held, which came just then
  abbrev pub Finds : DeskNow V → Option (Known V) → Cell → Kind → Bool → Option (Known V) → Option (Known V)
      → Option (Option (Known V)) → Type 0
  Finds o of x k weak hoped new None =
      (b : Option Block) × (q : Option Place) × (after : DeskNow V) × IsCompared o of x k weak hoped new true b q after
  Finds o of x k weak hoped new (Some held) =
      (after : DeskNow V) × IsCompared o of x k weak hoped new false (block_by held) (place_by held) after
      × CameTo held after

  -- since the owner came, cell x held that owner, as a load told, or a compare that differed
  abbrev pub Shows : DeskNow V → Option (Known V) → Cell → Option (Known V) → Type 0
  Shows o of x got =
      LoadedAt o of x Owner got
      ⊎ ((weak : Bool) × (hoped : Option (Known V)) × (new : Option (Known V))
      × Finds o of x Owner weak hoped new (Some got))

  -- what is desired after it: nothing where they were swapped
  abbrev pub desired_after : Option (Option (Known V)) → Option (Known V) → Option (Known V)
  desired_after None new = None
  desired_after (Some held) new = new

  -- the same, by what it answers: where they were swapped, nothing is desired any more, and what was expected stays;
  -- else what is expected now is the copy, and what was desired stays
  abbrev pub ComparedAt : DeskNow V → Option (Known V) → Cell → Kind → Bool → Option (Known V) → Option (Known V) → Bool
      → Option (Known V) → Option (Known V) → Type 0
  ComparedAt o of x k weak hoped new true hoped' new' =
      Finds o of x k weak hoped new None × (hoped' ≡ hoped) × (new' ≡ None)
  ComparedAt o of x k weak hoped new false hoped' new' = Finds o of x k weak hoped new (Some hoped') × (new' ≡ new)
