use Rattle.std.proofs.Common.{◌≡◌, true, is_some, IfSome, Some, None, Option, subst}
use Rattle.shared_handle.proofs.Prelude.{AddsEvent, Block, DeskNow, HasOwner, on_latest, Place, Shared, Weak}
use Rattle.control_word.specs.declared.model.event.Event.TheVariants.{Lock}
use Rattle.shared_handle.proofs.Owned.{owner_found}
use Rattle.shared_handle.proofs.locks.lock_once.Goals as goal

got_one : {V : Type 0} (d e : DeskNow V) (b : Block) (p : Option Place) (r : Option (Option Shared))
    → IfSome r (λ x. AddsEvent d (Lock (on_latest d Weak p b.0) (is_some x)) e) → HasOwner d (Some b) → IfSome r (λ x. is_some x ≡ true)
got_one d e b p None adds own = tt
got_one d e b p (Some x) adds own = owner_found d e b p (is_some x) adds own

pub returns-clause-owned : goal.returns-clause-owned
returns-clause-owned g c = λ own.
    let d = c.args.desk.now in
    got_one d c.lock_once.new.desk c.in-Some.of.block _ c.lock_once.result c.lock_once.ensures.event
    (subst (λ (b : Option Block). HasOwner d b) c.in-Some.ensures.1 own)
