-- What a walk over a vector says (own).
use Rattle.std.specs.Prelude.{◌≡◌, ◌⊎◌, ℕ, suc, zero, Option, None, Some, Result, Ok, Err}
use Rattle.std.specs.Fn.{CalledAt, Mut}
use denote.Ref.{Bor}
use Rattle.pointers.specs.declared.fault.Fault.{Fault}
use Rattle.pointers.specs.declared.known.Known.{Known}
use Rattle.shared_vec.specs.Refusals.{WhyNotFound}

-- by what a load of an index finds, and by the closure, whose answers are of type A
module _ {V E F A : Type 0} (Finds : ℕ → Option (Known V) → Type 0) (Is : Known V → E → Type 0)
    (g : Mut F (Bor E × Unit {0}) (Result A Fault)) where
  -- a load found a pointer at an index, and f was called with that and answered this
  pub record Tells (i : ℕ) (f : F) (answer : Result A Fault) (m : F) : Type 0 where
    pub pointer : Known V
    pub found : Finds i (Some pointer)
    pub element : E
    pub is : Is pointer element
    pub called : CalledAt g f element answer m

module _ {V E F : Type 0} (Finds : ℕ → Option (Known V) → Type 0) (Is : Known V → E → Type 0)
    (g : Mut F (Bor E × Unit {0}) (Result (Unit {0}) Fault)) where
  -- the same at each of the first n indexes, one after the other, and f answered no fault
  abbrev pub Shows : ℕ → F → F → Type 0
  Shows zero f m = f ≡ m
  Shows (suc n) f m = (before : F) × Shows n f before × Tells Finds Is g n before (Ok tt) m

  -- up to an index where a load found none, or up to the last index of all
  abbrev pub ShowsAll : F → Type 0
  ShowsAll f = (n : ℕ) × (last : F) × Shows n f last × (Finds n None ⊎ (n ≡ 18446744073709551615))

  -- or up to an index that could not be looked at, or at whose element f answered this fault
  abbrev pub WhyEnded : F → Fault → Type 0
  WhyEnded f why = (n : ℕ) × (before : F) × Shows n f before
      × (WhyNotFound why ⊎ ((after : F) × Tells Finds Is g n before (Err why) after))
