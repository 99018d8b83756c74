use Rattle.std.proofs.Common.{◌≡◌, Err, Ok, of_calls, refl, rules}
use Rattle.std.specs.Fn.{CalledAt}
use Rattle.pointers.proofs.ListSteps.{fault_is}
use Rattle.shared_vec.proofs.Sorts.{keys_on, keys_stopped}
use Rattle.shared_vec.proofs.Walks.{tells}
use Rattle.shared_vec.specs.Sorts.{WhyNoKeys}
use Rattle.shared_vec.specs.Vectors.{Gets}
use Rattle.shared_vec.proofs.vector.SharedVec.keys.Goals as goal

pub returns-in_err-key-clause-refused : goal.returns-in_err-key-clause-refused
returns-in_err-key-clause-refused g c =
    let o = g.D.Domain.opened in
    let s = c.args.self.now.place in
    let called : CalledAt g.F.FnMut c.loop-index.f c.of.result (Err c.in_err-key.field-0.0) c.f.new.self =
    record { shown = _; shows = refl; called = c.in_err-key.ensures } in
    let from = c.from_residual-in_err-key.ensures in
    let same : c.from_residual-in_err-key.result ≡ Err c.in_err-key.field-0.0 = search (from, rules) in
    fault_is (WhyNoKeys o g.E.Shown.shows g.F.FnMut s c.args.f) _ _
    (keys_stopped o g.E.Shown.shows g.F.FnMut s c.loop-index.index c.args.f c.loop-index.f c.f.new.self
    c.loop-index.keys.items c.in_err-key.field-0.0 c.loop-index.invariant.1
    (tells (Gets o s) g.E.Shown.shows g.F.FnMut c.loop-index.index c.loop-index.f c.f.new.self c.in_ok-owner.field-0
    c.in-Some.owner c.of.result (Err c.in_err-key.field-0.0) c.in_ok-owner.ensures.done c.in-Some.is c.of.ensures called))
    same

pub loop-index-preserved : goal.loop-index-preserved
loop-index-preserved g c =
    let o = g.D.Domain.opened in
    let s = c.args.self.now.place in
    let called : CalledAt g.F.FnMut c.loop-index.f c.of.result (Ok c.in_ok-key.key) c.f.new.self =
    record { shown = _; shows = refl; called = c.in_ok-key.ensures } in (
      search (of_calls, rules),
      keys_on o g.E.Shown.shows g.F.FnMut s c.loop-index.index c.args.f c.loop-index.f c.f.new.self
          c.loop-index.keys.items c.push.new.self.items c.in_ok-key.key c.loop-index.invariant.1 c.in_ok-push.ensures.items
          (tells (Gets o s) g.E.Shown.shows g.F.FnMut c.loop-index.index c.loop-index.f c.f.new.self
          c.in_ok-owner.field-0 c.in-Some.owner c.of.result (Ok c.in_ok-key.key) c.in_ok-owner.ensures.done c.in-Some.is
          c.of.ensures called),
    )
