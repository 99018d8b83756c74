-- Why a call on a trie was not done (own).
use Rattle.std.specs.Prelude.{◌≡◌, ◌⊎◌}
use Rattle.control_word.specs.declared.refusal.Refusal.TheVariants as refusal
use Rattle.pointers.specs.declared.fault.Fault.{Fault}
use Rattle.pointers.specs.declared.fault.Fault.TheVariants.{Busy, Cell, Crowded, Member, Refused}
use Rattle.pointers.specs.declared.fault.call.Call.TheVariants.{Make}

-- the desk is at work, or has as many pointers as it may; there is no such cell or member for the trie, or objects have
-- fewer than eight; or there is an object that no trie put there
abbrev pub WhyNotFound : Fault → Type 0
WhyNotFound (Busy call) = Unit {0}
WhyNotFound (Crowded call) = Unit {0}
WhyNotFound (Cell call) = Unit {0}
WhyNotFound (Member call) = Unit {0}
WhyNotFound (Refused call refusal.Null) = Unit {0}
WhyNotFound (Refused call refusal.Outside) = Unit {0}
WhyNotFound _ = ⊥

-- or there is no vacant block for a node
abbrev pub WhyNotPut : Fault → Type 0
WhyNotPut why = WhyNotFound why ⊎ (why ≡ Refused Make refusal.Full)
