-- Why a call on a pointer was not done (own).
use Rattle.std.specs.Prelude.{◌≡◌, ◌⊎◌, Option, None, Some}
use Rattle.control_word.specs.declared.refusal.Refusal.{Refusal}
use Rattle.control_word.specs.declared.refusal.Refusal.TheVariants as refusal
use Rattle.control_block.specs.Desks.{DeskNow, allowance_of}
use Rattle.shared_handle.specs.Endings.{WhyNotThis}
use Rattle.pointers.specs.Beside.{Stays}
use Rattle.pointers.specs.Known.{IsAtAllowance, Since, owned, pointed}
use Rattle.pointers.specs.Objects.{FindsNoOwner}
use Rattle.pointers.specs.declared.fault.Fault.{Fault}
use Rattle.pointers.specs.declared.fault.Fault.TheVariants.{Busy, Crowded, Memory, Refused}
use Rattle.pointers.specs.declared.fault.call.Call.{Call}
use Rattle.pointers.specs.declared.fault.call.Call.TheVariants.{Make, Visit}
use Rattle.pointers.specs.declared.known.Known.{Known}

-- at the desk's allowance it is crowded, and else the domain's refusal
abbrev pub fault_of : Call → Refusal → Fault
fault_of call refusal.Limit = Crowded call
fault_of call refusal.Memory = Memory
fault_of call why = Refused call why

abbrev pub IsRefusedFor : Refusal → Fault → Type 0
IsRefusedFor refusal (Refused call why) = why ≡ refusal
IsRefusedFor refusal _ = ⊥

-- it came within a visit, or the domain refused it, for such a reason
abbrev pub WhyNot : Call → (Refusal → Type 0) → Fault → Type 0
WhyNot call Reason why = (why ≡ Busy call) ⊎ ((refusal : Refusal) × (why ≡ fault_of call refusal) × Reason refusal)

module _ {V : Type 0} where
  -- since the handle came, or the desk was opened, the desk was so
  pub record Was (o : DeskNow V) (of : Option (Known V)) (Is : DeskNow V → Type 0) : Type 0 where
    pub desk : DeskNow V
    pub stays : Stays o of desk
    pub allowance : allowance_of desk ≡ allowance_of o
    pub is : Is desk

  -- it came within a visit, or the desk had as many handles as it may have
  abbrev pub WhyNoMore : DeskNow V → Option (Known V) → Call → Fault → Type 0
  WhyNoMore o of call why = (why ≡ Busy call) ⊎ ((why ≡ Crowded call) × Was o of IsAtAllowance)

  -- why an owner gives no pointer to its object ([util.smartptr.enab]; refusals: own)
  abbrev pub WhyNoThis : DeskNow V → Known V → Refusal → Type 0
  WhyNoThis o c why = Was o (Some c) (λ d. WhyNotThis d (owned c) (pointed c) why)

  -- why a weak handle gives no owner: the desk had as many handles as it may have, or no owner remained at its step
  -- ([util.smartptr.shared.const])
  abbrev pub WhyNoOwner : DeskNow V → Known V → Refusal → Type 0
  WhyNoOwner o c refusal.Limit = Was o (Some c) IsAtAllowance
  WhyNoOwner o c refusal.BadWeak = Since o c (λ d e. FindsNoOwner d (owned c) (pointed c) e)
  WhyNoOwner o c why = ⊥

-- a make came within a visit, the desk has as many pointers as it may have, or there is no vacant block for it
abbrev pub WhyNotMade : Fault → Type 0
WhyNotMade why = WhyNot Make (λ reason. (reason ≡ refusal.Limit) ⊎ (reason ≡ refusal.Full)) why

-- a visit came within another one, there was no memory for it, or there is no object
abbrev pub WhyNotVisited : {V : Type 0} → Known V → Fault → Type 0
WhyNotVisited c why = (why ≡ Memory) ⊎ WhyNot Visit (λ reason. (reason ≡ refusal.Null) × (owned c ≡ None)) why
