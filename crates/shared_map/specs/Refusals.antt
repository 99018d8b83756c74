-- Why a call on a map was not done (own).
use Rattle.std.specs.Prelude.{◌≡◌, ◌⊎◌}
use Rattle.control_word.specs.declared.model.handle.Kind.TheVariants.{Owner}
use Rattle.control_word.specs.declared.refusal.Refusal.TheVariants as refusal
use Rattle.control_block.specs.Desks.{DeskNow}
use Rattle.pointers.specs.Faults.{WhyNotMade}
use Rattle.pointers.specs.Places.{WhyNotDoneAt}
use Rattle.pointers.specs.Sites.{Site}
use Rattle.pointers.specs.declared.fault.Fault.{Fault}
use Rattle.pointers.specs.declared.fault.Fault.TheVariants.{Busy, Cell, Crowded, Memory, Refused}
use Rattle.pointers.specs.declared.fault.call.Call.{Call}
use Rattle.pointers.specs.declared.fault.call.Call.TheVariants.{Make}

-- the desk is at work, or has as many pointers as it may, or the cell has an object that no map put there
abbrev pub WhyNotFound : Fault → Type 0
WhyNotFound (Busy call) = Unit {0}
WhyNotFound (Crowded call) = Unit {0}
WhyNotFound (Refused call refusal.Null) = Unit {0}
WhyNotFound (Refused call refusal.Outside) = Unit {0}
WhyNotFound _ = ⊥

-- or there is no vacant block for an entry
abbrev pub WhyNotPut : Fault → Type 0
WhyNotPut why = WhyNotFound why ⊎ (why ≡ Refused Make refusal.Full)

-- or there is no such cell, or no memory for the map's buckets
abbrev pub WhyNotOpened : Fault → Type 0
WhyNotOpened (Cell call) = Unit {0}
WhyNotOpened Memory = Unit {0}
WhyNotOpened why = WhyNotPut why

-- why there is no object in a place: none was made, or a call on the place was refused
abbrev pub WhyNoNode : {V : Type 0} → DeskNow V → Site V → Fault → Type 0
WhyNoNode o s why = WhyNotMade why ⊎ ((call : Call) × WhyNotDoneAt o Owner s call why)
