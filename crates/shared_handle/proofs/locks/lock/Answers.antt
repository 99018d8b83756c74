use Rattle.std.proofs.Common.{is_some, Option, sym, ap, ◌∙◌, subst, true≢false}
use Rattle.shared_handle.proofs.Prelude.{Block, HasOwner, Shared}
use Rattle.shared_handle.proofs.Callers.{kept_twice}
use Rattle.shared_handle.proofs.Owned.{owner_found}
use Rattle.shared_handle.proofs.locks.lock.Goals as goal

pub returns-in-Ok-clause-keeps : goal.returns-in-Ok-clause-keeps
returns-in-Ok-clause-keeps g c = kept_twice c.args.desk.now c.lock.new.desk c.empty_at-in-None.new.desk c.in_ok-owner.ensures.keeps c.in-Ok.ensures.keeps

pub returns-in-Ok-clause-owned : goal.returns-in-Ok-clause-owned
returns-in-Ok-clause-owned g c = λ own.
    let d = c.args.desk.now in
    let there = subst (λ (b : Option Block). HasOwner d b) c.in-Some.ensures.1 own in
    absurd (true≢false
    (sym (owner_found d c.lock.new.desk c.in-Some.of.block _ _ c.in_ok-owner.ensures.event there)
    ∙ ap (λ (r : Option Shared). is_some r) c.in-None.is))
