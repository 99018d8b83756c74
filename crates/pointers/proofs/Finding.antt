-- What a look tells of the pointer that was found last.
use Rattle.std.proofs.Common.{◌≡◌, Bool, true, IfOk, None, Some, Ok, Err, Option, Result, sym, subst}
use Rattle.pointers.proofs.Prelude.{Block, Cell, DeskNow, Fault, Kind, Known, owned, Place, TellsHeld}
use Rattle.pointers.specs.Beside.{IsEmptyHandle}
use Rattle.pointers.specs.Cells.{FoundAt, LookedEmptyAt, LookedForAt}

pub told_still : {V : Type 0} (o : DeskNow V) (of : Option (Known V)) (x : Cell) (k : Kind) (c : Known V) (found : Option (Known V)) (r : Result Bool Fault)
    → found ≡ Some c → IfOk r (LookedForAt o of x k c)
    → IfOk r (λ same. same ≡ true → (d : Known V) × (found ≡ Some d) × LookedForAt o of x k d true)
told_still o of x k c found (Ok same) is told = λ e. (c, is, subst (λ (b : Bool). LookedForAt o of x k c b) e told)
told_still o of x k c found (Err why) is told = tt

-- a look for a pointer that is empty
pub told_empty : {V : Type 0} (o : DeskNow V) (of : Option (Known V)) (x : Cell) (k : Kind) (c : Known V) (r : Result Bool Fault)
    → IsEmptyHandle c.handle → IfOk r (LookedForAt o of x k c) → IfOk r (LookedEmptyAt o of x k)
told_empty o of x k c (Ok same) empty told = (
  told.before,
  told.after,
  told.does.0,
  subst (λ (b : Option Block). TellsHeld told.before x k b None same told.after) empty.0
      (subst (λ (p : Option Place). TellsHeld told.before x k (owned c) p same told.after) empty.1 told.does.1),
)
told_empty o of x k c (Err why) empty told = tt

-- what was found, by another name
pub found_as : {V : Type 0} (o : DeskNow V) (of : Option (Known V)) (x : Cell) (k : Kind) (a b : Option (Known V)) → a ≡ b → FoundAt o of x k b
    → FoundAt o of x k a
found_as o of x k a b same found = subst (λ (c : Option (Known _)). FoundAt o of x k c) (sym same) found
