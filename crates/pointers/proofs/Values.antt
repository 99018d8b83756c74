-- What is made of the values of what places hold.
use Rattle.std.proofs.Common.{◌≡◌, inr, Bool, false, true, Option, Some, Result, Err, IfErr, subst, sym}
use Rattle.control_word.specs.declared.model.event.Cell.{Cell}
use Rattle.control_word.specs.declared.model.handle.Kind.TheVariants.{Owner}
use Rattle.control_block.specs.Desks.{DeskNow}
use Rattle.pointers.specs.Compares.{ComparedAt, Shows}
use Rattle.pointers.specs.Faults.{WhyNotVisited}
use Rattle.pointers.specs.SiteCalls.{Loaded, WhyNoValue}
use Rattle.pointers.specs.Sites.{Site}
use Rattle.pointers.specs.declared.fault.Fault.{Fault}
use Rattle.pointers.specs.declared.known.Known.{Known}

-- what is said of a fault is said of a result that is that fault
pub fault_as : {A : Type 0} (r : Result A Fault) (why : Fault) (Why : Fault → Type 0) → r ≡ Err why → Why why → IfErr r Why
fault_as r why Why same is = subst (λ (s : Result _ Fault). IfErr s Why) (sym same) is

-- the value of what was loaded wasn't copied
pub why_not_copied : {V : Type 0} (o : DeskNow V) (s : Site V) (got : Option (Known V)) (c : Known V) (why : Fault)
    → Loaded o Owner s got → got ≡ Some c → WhyNotVisited c why → WhyNoValue o s why
why_not_copied o s got c why loaded is refused =
    inr (c, subst (λ (y : Option (Known _)). Loaded o Owner s y) is loaded, refused)

-- a compare that differed shows what the cell held
pub shows_by : {V : Type 0} (o : DeskNow V) (of : Option (Known V)) (x : Cell) (weak : Bool)
    (hoped new hoped' new' : Option (Known V)) (done : Bool) → done ≡ false
    → ComparedAt o of x Owner weak hoped new done hoped' new' → Shows o of x hoped'
shows_by o of x weak hoped new hoped' new' true differs is = absurd (cc differs)
shows_by o of x weak hoped new hoped' new' false differs is = inr (weak, hoped, new, is.0)
