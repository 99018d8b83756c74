-- An owner that left, and what came of its object ([util.smartptr.shared.dest]).
use Rattle.std.specs.Prelude.{◌≡◌, List, Option, None, Some}
use Rattle.control_word.specs.declared.place.Block.{Block}
use Rattle.control_word.specs.declared.place.Place.{Place}
use Rattle.control_block.specs.Desks.{DeskNow}
use Rattle.shared_handle.specs.Piles.{Drops, EndsTop}
use Rattle.shared_handle.specs.declared.endings.Ending.{Ending}
use Rattle.shared_handle.specs.declared.pile.Gone.{Gone}
use Rattle.shared_handle.specs.declared.pile.Gone.TheVariants.{Empty, Last, Others}

module _ {V : Type 0} where
  -- after a last owner the object on top of what is left to end has ended, and this is its value; after another one
  -- nothing more was done
  abbrev pub EndsLast : Gone → DeskNow V → List (Ending V) → Option V → DeskNow V → Type 0
  EndsLast Last d xs (Some v) e = (ys : List (Ending V)) × EndsTop d xs v e ys
  EndsLast Last d xs None e = ⊥
  EndsLast Others d xs value e = (value ≡ None) × (e ≡ d)
  EndsLast Empty d xs value e = (value ≡ None) × (e ≡ d)

  -- the owner left, and where it was its object's last, the object ended and its value came out
  pub record EndsOwner (d : DeskNow V) (b : Option Block) (p : Option Place) (value : Option V) (e : DeskNow V) : Type 0
    where
      pub endings : List (Ending V)
      pub gone : Gone
      pub left : DeskNow V
      pub piled : List (Ending V)
      pub drops : Drops d endings b p gone left piled
      pub ends : EndsLast gone left piled value e
