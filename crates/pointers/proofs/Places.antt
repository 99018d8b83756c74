-- What is refused of a member that each object has.
use Rattle.std.proofs.Common.{◌⊎◌, inl, inr}
use Rattle.pointers.proofs.Prelude.{DeskNow, Fault, Known, Owner, Weak}
use Rattle.pointers.specs.Lists.{IsMemberRefused}
use Rattle.pointers.specs.SiteCalls.{WhyNotDone}
use Rattle.pointers.specs.Sites.{member_site}
use Rattle.pointers.specs.declared.fault.call.Call.{Call}
use Rattle.pointers.specs.declared.fault.call.Spot.{Spot}
use Rattle.pointers.specs.declared.fault.call.Spot.TheVariants as spot

module _ {V : Type 0} where
  pub owner_refused : (o : DeskNow V) (c : Known V) (call : Spot → Call) (why : Fault) → WhyNotDone o Owner (member_site c 0) call why
      → IsMemberRefused o c why
  owner_refused o c call why (inl (inl away)) = (call (spot.Owner 0), inl away)
  owner_refused o c call why (inl (inr beyond)) = absurd beyond.0
  owner_refused o c call why (inr more) = (call (spot.Owner 0), inr more)

  pub weak_refused : (o : DeskNow V) (c : Known V) (call : Spot → Call) (why : Fault) → WhyNotDone o Weak (member_site c 0) call why
      → IsMemberRefused o c why
  weak_refused o c call why (inl (inl away)) = (call (spot.WeakMember 0), inl away)
  weak_refused o c call why (inl (inr beyond)) = absurd beyond.0
  weak_refused o c call why (inr more) = (call (spot.WeakMember 0), inr more)
