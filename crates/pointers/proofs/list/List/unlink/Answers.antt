use Rattle.std.proofs.Common.{rules, refl, subst, ◌≡◌, Err, Option, Some}
use Rattle.pointers.specs.ListChanges.{IsListRefused, IsPlaceOf}
use Rattle.pointers.specs.Lists.{Leads, behind, next_of}
use Rattle.pointers.specs.declared.known.Known.{Known}
use Rattle.pointers.proofs.ListRemovals.{goes_out_by_store}
use Rattle.pointers.proofs.ListSteps.{fault_is, place_on, refused_at}
use Rattle.pointers.proofs.list.List.unlink.Goals as goal

pub returns-in_err-rest-clause-refused : goal.returns-in_err-rest-clause-refused
returns-in_err-rest-clause-refused g c =
    let from = c.from_residual.ensures in
    let same : c.from_residual.result ≡ Err c.in_err-rest.field-0.0 = search (from, rules) in
    fault_is (IsListRefused g.D.Domain.opened g.E.Element.refused c.args.self.now) _ _
    (refused_at g.D.Domain.opened g.E.Element.refused c.args.self.now (next_of c.args.node) c.in_err-rest.field-0.0
    (place_on g.D.Domain.opened c.args.self.now (behind c.args.before.now c.args.self.now) (Some c.args.node) c.args.node c.requires.place
    c.requires.leads refl) c.in_err-rest.ensures.refused) same

pub returns-in_err-put_behind-in-Some-clause-refused : goal.returns-in_err-put_behind-in-Some-clause-refused
returns-in_err-put_behind-in-Some-clause-refused g c =
    let from = c.from_residual-in_err-put_behind-in-Some.ensures in
    let same : c.from_residual-in_err-put_behind-in-Some.result ≡ Err c.in_err-put_behind-in-Some.field-0.0 = search (from, rules) in
    fault_is (IsListRefused g.D.Domain.opened g.E.Element.refused c.args.self.now) _ _
    (refused_at g.D.Domain.opened g.E.Element.refused c.args.self.now (next_of c.in-Some.before) c.in_err-put_behind-in-Some.field-0.0
    (subst (λ (b : Option (Known g.row.D-Value.Denot)). IsPlaceOf g.D.Domain.opened c.args.self.now (behind b c.args.self.now)) c.in-Some.is
    c.requires.place) c.in_err-put_behind-in-Some.ensures.refused) same

pub returns-in_ok-put_behind-in-Some-clause-out : goal.returns-in_ok-put_behind-in-Some-clause-out
returns-in_ok-put_behind-in-Some-clause-out g c =
    let o = g.D.Domain.opened in
    let leads : Leads o (next_of c.in-Some.before) (Some c.args.node) =
    subst (λ (b : Option (Known g.row.D-Value.Denot)). Leads o (behind b c.args.self.now) (Some c.args.node)) c.in-Some.is
    c.requires.leads in
    let place : IsPlaceOf o c.args.self.now (next_of c.in-Some.before) =
    subst (λ (b : Option (Known g.row.D-Value.Denot)). IsPlaceOf o c.args.self.now (behind b c.args.self.now)) c.in-Some.is
    c.requires.place in
    goes_out_by_store o c.args.self.now (next_of c.in-Some.before) c.args.node (Some c.args.node) c.in_ok-rest.rest place refl
    leads c.in_ok-rest.ensures.led c.in_ok-put_behind-in-Some.ensures.comes

pub unlink_first-requires : goal.unlink_first-requires
unlink_first-requires g c = λ k. (
  (refl, (refl, tt)),
  (
    subst (λ (b : Option (Known g.row.D-Value.Denot)). Leads g.D.Domain.opened (behind b c.args.self.now) (Some c.args.node))
        c.in-None.is c.requires.leads,
    c.in_ok-rest.ensures.led,
  ),
)
