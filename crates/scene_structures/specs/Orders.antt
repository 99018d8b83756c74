-- In which order objects end within a call (own).
use Rattle.std.specs.Prelude.{◌≡◌, ◌⊎◌, false, List, [], ◌∷◌, Option}
use Rattle.control_word.specs.declared.model.event.Event.{Event}
use Rattle.control_word.specs.declared.model.event.Event.TheVariants.{ClearMember, Finish, Leave}
use Rattle.control_word.specs.declared.place.Block.{Block}
use Rattle.control_word.specs.declared.place.Place.{Place}
use Rattle.control_block.specs.Desks.{DeskNow}
use Rattle.control_block.specs.Own.{Does}
use Rattle.shared_handle.specs.Piles.{AreRounds, Drops, Past}
use Rattle.shared_handle.specs.declared.endings.Ending.{Ending}
use Rattle.shared_handle.specs.declared.pile.Gone.{Gone}

-- the desk and the pile before a step of a call
pub record Before (V : Type 0) : Type 0 where
  pub desk : DeskNow V
  pub pile : List (Ending V)

module _ {V : Type 0} where
  -- no object begins to end by the event, none of its members is emptied, and none is finished
  abbrev pub EndsNothing : Event V → Type 0
  EndsNothing (Leave h last) = last ≡ false
  EndsNothing (ClearMember o m h) = ⊥
  EndsNothing (Finish o vacant value) = ⊥
  EndsNothing _ = Unit {0}

  -- an owner left, what ended for it went onto the pile, and all that lay there ended by rounds
  pub record LetsGo (d : DeskNow V) (xs : List (Ending V)) (e : DeskNow V) (ys : List (Ending V)) : Type 0 where
    pub block : Option Block
    pub place : Option Place
    pub gone : Gone
    pub left : DeskNow V
    pub piled : List (Ending V)
    pub drops : Drops d xs block place gone left piled
    pub rounds : List (Past V)
    pub ends : AreRounds left piled rounds e ys
    pub none : ys ≡ []

  -- a step: own events by which nothing ends, or an owner that leaves, with all that ends by that
  abbrev pub IsStep : DeskNow V → List (Ending V) → DeskNow V → List (Ending V) → Type 0
  IsStep d xs e ys = (Does EndsNothing d e × (ys ≡ xs)) ⊎ LetsGo d xs e ys

  -- steps in a row, the newest first
  abbrev pub AreSteps : DeskNow V → List (Ending V) → List (Before V) → DeskNow V → List (Ending V) → Type 0
  AreSteps d xs [] e ys = (e ≡ d) × (ys ≡ xs)
  AreSteps d xs (s ∷ ss) e ys = AreSteps d xs ss s.desk s.pile × IsStep s.desk s.pile e ys

  -- Objects end only where an owner leaves, and each of them by the rounds that come next: its `first`, `next` and `up`
  -- are emptied in this order, what ends by that ends before the next of them, and then it is finished
  pub record EndsInOrder (d : DeskNow V) (xs : List (Ending V)) (e : DeskNow V) (ys : List (Ending V)) : Type 0 where
    pub steps : List (Before V)
    pub are : AreSteps d xs steps e ys
