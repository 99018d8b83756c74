use Rattle.std.proofs.Common.{◌≡◌, arith, Err, Ok, of_calls, refl, rules}
use Rattle.std.specs.Fn.{CalledAt}
use Rattle.pointers.proofs.ListSteps.{fault_is}
use Rattle.shared_vec.proofs.Walks.{not_found, shows_last, shows_none, shows_on, stopped, tells}
use Rattle.shared_vec.specs.WeakVectors.{GetsWeak}
use Rattle.shared_vec.specs.Walks.{WhyEnded}
use Rattle.shared_vec.proofs.weak_vector.WeakVec.each.Goals as goal

pub loop-index-init : goal.loop-index-init
loop-index-init g c = (λ always. always, refl)

pub returns-in_err-weak-clause-fault : goal.returns-in_err-weak-clause-fault
returns-in_err-weak-clause-fault g c =
    let broken = not_found (GetsWeak g.D.Domain.opened c.args.self.now.holders.place) g.E.Shown.shows g.F.FnMut
    c.loop-index.index c.args.f c.loop-index.f
    c.in_err-weak.field-0.0 c.loop-index.invariant.1 c.in_err-weak.ensures.refused in
    search (broken, rules)

pub returns-in_default-clause-told : goal.returns-in_default-clause-told
returns-in_default-clause-told g c =
    shows_none (GetsWeak g.D.Domain.opened c.args.self.now.holders.place) g.E.Shown.shows g.F.FnMut
    c.loop-index.index c.args.f c.loop-index.f c.in_ok-weak.field-0
    c.loop-index.invariant.1 c.in_ok-weak.ensures.done c.in_default.is

pub f-requires : goal.f-requires
f-requires g c =
    let always = c.loop-index.invariant.0 c.requires in
    search (always, of_calls, rules)

pub returns-in_err-f-clause-fault : goal.returns-in_err-f-clause-fault
returns-in_err-f-clause-fault g c =
    let finds = GetsWeak g.D.Domain.opened c.args.self.now.holders.place in
    let called : CalledAt g.F.FnMut c.loop-index.f c.of.result (Err c.in_err-f.field-0.0) c.f.new.self =
    record { shown = _; shows = refl; called = c.in_err-f.ensures } in
    let from = c.from_residual-in_err-f.ensures in
    let same : c.from_residual-in_err-f.result ≡ Err c.in_err-f.field-0.0 = search (from, rules) in
    fault_is (WhyEnded finds g.E.Shown.shows g.F.FnMut c.args.f) _ _
    (stopped finds g.E.Shown.shows g.F.FnMut c.loop-index.index c.args.f c.loop-index.f c.f.new.self
    c.in_err-f.field-0.0 c.loop-index.invariant.1
    (tells finds g.E.Shown.shows g.F.FnMut c.loop-index.index c.loop-index.f c.f.new.self c.in_ok-weak.field-0
    c.in-Some.weak c.of.result (Err c.in_err-f.field-0.0) c.in_ok-weak.ensures.done c.in-Some.is c.of.ensures called))
    same

pub loop-index-preserved : goal.loop-index-preserved
loop-index-preserved g c =
    let finds = GetsWeak g.D.Domain.opened c.args.self.now.holders.place in
    let called : CalledAt g.F.FnMut c.loop-index.f c.of.result (Ok tt) c.f.new.self =
    record { shown = _; shows = refl; called = c.in_ok-f.ensures } in (
      search (of_calls, rules),
      shows_on finds g.E.Shown.shows g.F.FnMut c.loop-index.index c.args.f c.loop-index.f c.f.new.self
          c.loop-index.invariant.1
          (tells finds g.E.Shown.shows g.F.FnMut c.loop-index.index c.loop-index.f c.f.new.self c.in_ok-weak.field-0
          c.in-Some.weak c.of.result (Ok tt) c.in_ok-weak.ensures.done c.in-Some.is c.of.ensures called),
    )

pub returns-clause-told : goal.returns-clause-told
returns-clause-told g c =
    shows_last (GetsWeak g.D.Domain.opened c.args.self.now.holders.place) g.E.Shown.shows g.F.FnMut
    c.loop-index.index c.args.f c.loop-index.f c.loop-index.invariant.1
    (omega arith) c.loop-index-test.false
