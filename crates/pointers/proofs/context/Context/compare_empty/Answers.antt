use Rattle.std.proofs.Common.{Some}
use Rattle.pointers.proofs.HandCompares.{differs_none, lacks_two, swaps_none}
use Rattle.pointers.specs.Beside.{seen_by}
use Rattle.pointers.proofs.context.Context.compare_empty.Goals as goal

pub returns-in-Ok-None-default-clause-exact : goal.returns-in-Ok-None-default-clause-exact
returns-in-Ok-None-default-clause-exact g c =
    let k = c.in-Ok-None-default in let n = c.in_ok-new in
    swaps_none c.args.self.now.desk c.empty_owner.new.self.desk c.compare.new.self.desk _ c.args.how.now.weak (Some c.args.expected.now.known)
    n.new.known k.field-0-0 (λ d. seen_by (λ x. x.known) d.held) k.field-0-0-is n.ensures.empty n.ensures.count k.ensures.exact

pub returns-in-Ok-None-default-clause-limit : goal.returns-in-Ok-None-default-clause-limit
returns-in-Ok-None-default-clause-limit g c =
    let k = c.in-Ok-None-default in let n = c.in_ok-new in (
      λ e. absurd (cc e),
      λ few. k.ensures.limit.1
          (lacks_two c.args.self.now.desk c.empty_owner.new.self.desk c.args.expected.now.known n.ensures.room n.ensures.count few),
    )

pub returns-in-Ok-Some-default-clause-exact : goal.returns-in-Ok-Some-default-clause-exact
returns-in-Ok-Some-default-clause-exact g c =
    let k = c.in-Ok-Some-default in let n = c.in_ok-new in
    differs_none c.args.self.now.desk c.empty_owner.new.self.desk c.compare.new.self.desk c.leave.new.self.desk _ c.args.how.now.weak
    (Some c.args.expected.now.known) n.new.known k.field-0-0 (λ d. seen_by (λ x. x.known) d.held) (λ d. d.desired.known) k.differs k.field-0-0-is
    n.ensures.empty n.ensures.count k.ensures.exact k.ensures.stays c.leave.ensures.exact

pub returns-in-Ok-Some-default-clause-limit : goal.returns-in-Ok-Some-default-clause-limit
returns-in-Ok-Some-default-clause-limit g c =
    let k = c.in-Ok-Some-default in let n = c.in_ok-new in (
      λ e. absurd (cc e),
      λ few. k.ensures.limit.1
          (lacks_two c.args.self.now.desk c.empty_owner.new.self.desk c.args.expected.now.known n.ensures.room n.ensures.count few),
    )
