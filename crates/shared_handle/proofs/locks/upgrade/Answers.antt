use Rattle.std.proofs.Common.{is_some, Option, sym, ap, ◌∙◌, subst, true≢false}
use Rattle.shared_handle.proofs.Prelude.{Block, HasOwner, Shared}
use Rattle.shared_handle.proofs.Owned.{owner_found}
use Rattle.shared_handle.proofs.locks.upgrade.Goals as goal

pub returns-in-None-clause-owned : goal.returns-in-None-clause-owned
returns-in-None-clause-owned g c = λ own.
    let d = c.args.desk.now in
    let there = subst (λ (b : Option Block). HasOwner d b) c.in-Some.ensures.1 own in
    absurd (true≢false
    (sym (owner_found d c.lock.new.desk c.in-Some.of.block _ _ c.in_ok-owner.ensures.event there)
    ∙ ap (λ (r : Option Shared). is_some r) c.in-None.is))
