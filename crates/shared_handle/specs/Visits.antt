-- What a visit of a value says.
use Rattle.std.specs.Prelude.{◌≡◌, Option, None, Some, Result, Ok, Err}
use Rattle.control_word.specs.declared.model.event.Event.TheVariants.{Visit}
use Rattle.control_word.specs.declared.model.handle.Kind.TheVariants.{Owner}
use Rattle.control_word.specs.declared.place.Block.{Block}
use Rattle.control_word.specs.declared.place.Place.{Place}
use Rattle.control_word.specs.declared.refusal.Refusal.TheVariants.{Null}
use Rattle.control_word.specs.declared.refusal.Refused.{Refused}
use Rattle.control_block.specs.Desks.{AddsEvent, DeskNow, on_latest}

module _ {V R F : Type 0} (changes : V → R → V → Type 0) (f : F) where
  -- an owner's object was visited, and its value changed as this says; an empty handle has none (own)
  abbrev pub IsVisit : DeskNow V → Option Block → Option Place → Result R (Refused F) → DeskNow V → Type 0
  IsVisit d None p (Err r) e = (r.why ≡ Null) × (r.back ≡ f) × (e ≡ d)
  IsVisit d (Some b) p (Ok r) e = (was : V) × (becomes : V) × changes was r becomes
      × AddsEvent d (Visit (on_latest d Owner p b.0) was becomes) e
  IsVisit d b p r e = ⊥
