-- What every handle is, wherever it came from.
use Rattle.std.specs.Prelude.{ℕ, Option, None, Some, refl}
use Rattle.std.specs.Coded.{Coded, Coded-set, code_by, coded×, coded_option, coded_ℕ}
use Rattle.std.specs.Coded.{×_prop, Unit-prop, le_prop}
use Rattle.control_word.specs.HandleWords.{HandleNow}
use Rattle.control_word.specs.Handles.{IsBare, IsFormed, IsPointer, handle}
use Rattle.control_word.specs.declared.model.handle.Kind.{Kind}
use Rattle.control_word.specs.declared.model.handle.Kind.TheVariants.{Owner, Weak}
use Rattle.control_word.specs.declared.place.Block.{Block}
use Rattle.control_word.specs.declared.place.Place.{Place}

-- an empty handle points at one of a block's fields or nowhere, and a weak one nowhere (own)
abbrev pub IsProper : Kind → Option Block → Option Place → Type 0
IsProper k None p = IsFormed (handle k None p)
IsProper k (Some b) p = Unit {0}

-- there is at most one proof of it
IsPointer-prop : (p : Option Place) → IsProp (IsPointer p)
IsPointer-prop None = Unit-prop
IsPointer-prop (Some p) = λ u v i. (le_prop u.0 v.0 i, le_prop u.1 v.1 i, le_prop u.2 v.2 i)

IsBare-prop : (k : Kind) (p : Option Place) → IsSet (Option Place) → IsProp (IsBare k None p)
IsBare-prop Owner p s = Unit-prop
IsBare-prop Weak p s = s p None

pub IsProper-prop : (k : Kind) (b : Option Block) (p : Option Place) → IsSet (Option Place)
    → IsProp (IsProper k b p)
IsProper-prop k None p s = ×_prop (IsPointer-prop p) (IsBare-prop k p s)
IsProper-prop k (Some b) p s = Unit-prop

-- a place is known by its block's number and its field
abbrev place_code : Coded (Option Place)
place_code =
    coded_option (code_by (ℕ × ℕ) (coded× coded_ℕ coded_ℕ) (λ p. (p.block.0, p.field))
    (λ q. record { block = record { 0 = q.0 }; field = q.1 }) (λ _. refl))

pub IsProper-known : (k : Kind) (b : Option Block) (p : Option Place) → IsProp (IsProper k b p)
IsProper-known k b p = IsProper-prop k b p (Coded-set place_code)

-- a shared or weak pointer: the block of what it is on, if it is on an object, and where it points
pub record Pointer (k : Kind) : Type 0 where
  pub block : Option Block
  pub place : Option Place
  pub proper : IsProper k block place

-- its word says its block and its place
abbrev pub word_of : {k : Kind} → Pointer k → HandleNow
word_of h = record { block = h.block; place = h.place }
