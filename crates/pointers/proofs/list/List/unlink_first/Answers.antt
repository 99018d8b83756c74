use Rattle.std.proofs.Common.{rules, ◌≡◌, Err, Option, Some, refl, sym, subst, inl, inr}
use Rattle.pointers.specs.ListChanges.{IsListRefused}
use Rattle.pointers.specs.Lists.{Leads, next_of}
use Rattle.pointers.specs.declared.known.Known.{Known}
use Rattle.pointers.proofs.ListRemovals.{goes_out_by_swap}
use Rattle.pointers.proofs.ListSteps.{fault_is, refused_first, refused_here}
use Rattle.pointers.proofs.list.List.unlink_first.Goals as goal

pub returns-in_err-share-clause-refused : goal.returns-in_err-share-clause-refused
returns-in_err-share-clause-refused g c =
    let from = c.from_residual.ensures in
    let same : c.from_residual.result ≡ Err c.in_err-share.field-0.0 = search (from, rules) in
    fault_is (IsListRefused g.D.Domain.opened g.E.Element.refused c.args.self.now) _ _
    (refused_first g.D.Domain.opened g.E.Element.refused c.args.self.now (Some c.args.node) c.args.node c.in_err-share.field-0.0
    c.requires.leads refl (inr c.in_err-share.ensures.fault)) same

pub returns-in_err-replace_first-clause-refused : goal.returns-in_err-replace_first-clause-refused
returns-in_err-replace_first-clause-refused g c =
    let from = c.from_residual-in_err-replace_first.ensures in
    let same : c.from_residual-in_err-replace_first.result ≡ Err c.in_err-replace_first.field-0.0 = search (from, rules) in
    fault_is (IsListRefused g.D.Domain.opened g.E.Element.refused c.args.self.now) _ _
    (refused_here g.D.Domain.opened g.E.Element.refused c.args.self.now c.in_err-replace_first.field-0.0
    c.in_err-replace_first.ensures.refused) same

pub returns-then-branch-clause-out : goal.returns-then-branch-clause-out
returns-then-branch-clause-out g c =
    goes_out_by_swap g.D.Domain.opened c.args.self.now c.args.self.now c.args.node c.in_ok-share.field-0 c.args.rest (inl refl)
    c.in_ok-share.ensures.one.block c.requires.next (c.in_ok-replace_first.ensures.swapped c.if-branch.true)

pub unlink_behind-requires : goal.unlink_behind-requires
unlink_behind-requires g c = λ k. (
  (refl, (refl, tt)),
  (
    c.in_ok-replace_first.ensures.found c.if-branch.false,
    subst (λ (r : Option (Known g.row.D-Value.Denot)). Leads g.D.Domain.opened (next_of c.args.node) r)
        (sym (c.in_ok-replace_first.ensures.stays c.if-branch.false)) c.requires.next,
  ),
)
