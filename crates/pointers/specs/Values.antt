-- What the calls on the values of what places hold say.
use Rattle.std.specs.Prelude.{false, Result, Ok, Option, None, Some}
use Rattle.control_word.specs.declared.model.event.Cell.{Cell}
use Rattle.control_word.specs.declared.model.handle.Kind.TheVariants.{Owner}
use Rattle.control_block.specs.Desks.{DeskNow}
use Rattle.shared_handle.specs.Visits.{IsVisit}
use Rattle.pointers.specs.Compares.{Finds, Shows}
use Rattle.pointers.specs.Faults.{WhyNotVisited}
use Rattle.pointers.specs.Known.{Since, owned, pointed}
use Rattle.pointers.specs.Objects.{MakesPlain}
use Rattle.pointers.specs.declared.fault.Fault.{Fault}
use Rattle.pointers.specs.declared.known.Known.{Known}

module _ {V : Type 0} where
  -- since the owner came, a visit of its object copied the value
  abbrev pub IsCopied : DeskNow V → (V → V → Type 0) → Known V → V → Type 0
  IsCopied o copies c v = Since o c (λ d e. IsVisit (λ was r becomes. copies was r) v d (owned c) (pointed c) (Ok v) e)

  -- the same of a pointer that may be empty: then there is no value
  abbrev pub IsValueOf : DeskNow V → (V → V → Type 0) → Option (Known V) → Option V → Type 0
  IsValueOf o copies None None = Unit {0}
  IsValueOf o copies None (Some v) = ⊥
  IsValueOf o copies (Some c) None = ⊥
  IsValueOf o copies (Some c) (Some v) = IsCopied o copies c v

  -- an owner of a new object, of what there is a value for, and none where there is none
  abbrev pub IsNewOf : DeskNow V → Option V → Option (Known V) → Type 0
  IsNewOf o None None = Unit {0}
  IsNewOf o None (Some c) = ⊥
  IsNewOf o (Some v) None = ⊥
  IsNewOf o (Some v) (Some c) = MakesPlain o v c

  -- since the owner came, one step on cell x found a pointer, and put in its place a new object's, or an empty one, by
  -- what was answered of a copy of the value of what was found
  pub record IsUpdatedAt (o : DeskNow V) (copies : V → V → Type 0) (of : Option (Known V)) (x : Cell)
      (Answers : Option V → Result (Option V) Fault → Type 0) : Type 0 where
    pub found : Option (Known V)
    pub made : Option (Known V)
    pub old : Option V
    pub value : Option V
    pub copied : IsValueOf o copies found old
    pub answered : Answers old (Ok value)
    pub new : IsNewOf o value made
    pub swaps : Finds o of x Owner false found made None

  -- the cell held an owner, and a visit of its object was refused
  pub record IsNotVisited (o : DeskNow V) (of : Option (Known V)) (x : Cell) (why : Fault) : Type 0 where
    pub found : Known V
    pub shows : Shows o of x (Some found)
    pub refused : WhyNotVisited found why
