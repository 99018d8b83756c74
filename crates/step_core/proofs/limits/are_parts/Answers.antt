use Rattle.std.proofs.Common.{◌≡◌, true, false, All, sym, refl, subst, arith}
use Rattle.step_core.proofs.Prelude.{Actor, All-map, HasFields, IsPart, Part, part_of}
use Rattle.step_core.proofs.Programs.{all_mapped, held_by_more}
use Rattle.step_core.proofs.limits.are_parts.Goals as goal

pub returns-then-not-is_part-clause-parts : goal.returns-then-not-is_part-clause-parts
returns-then-not-is_part-clause-parts c = (
  λ t. absurd (let k : ◌≡◌ false true = t in cc),
  λ all. c.if-not-is_part.ensures.part.1 (subst (λ (a : Actor). IsPart (part_of a)) (sym c.actor-item.is)
      (all_mapped IsPart part_of c.args.actors.now all c.loop-actor.actor-index c.actor-item.result c.loop-actor-test.true)),
)

pub loop-actor-preserved : goal.loop-actor-preserved
loop-actor-preserved c =
    let actors = c.args.actors.now in
    let i = c.loop-actor.actor-index in
    let a = c.actor-item.result in
    let part : IsPart (part_of a) = c.if-not-is_part.ensures.part.0 refl in
    let fields : All HasFields a.calls.items = c.if-not-is_part.ensures.fields refl in
    record {
      parts =
          held_by_more (λ (x : Actor). IsPart (part_of x)) actors i a c.loop-actor.invariant.parts c.loop-actor-test.true
          (subst (λ (x : Actor). IsPart (part_of x)) c.actor-item.is part);
      fields =
          held_by_more (λ (x : Actor). All HasFields x.calls.items) actors i a c.loop-actor.invariant.fields c.loop-actor-test.true
          (subst (λ (x : Actor). All HasFields x.calls.items) c.actor-item.is fields);
    }

pub returns-clause-parts : goal.returns-clause-parts
returns-clause-parts c = (
  λ t. All-map IsPart part_of c.args.actors.now
      (λ k d lt. c.loop-actor.invariant.parts k d (let n = c.loop-actor-test.false in omega arith)),
  λ a. refl,
)

pub returns-clause-fields : goal.returns-clause-fields
returns-clause-fields c = λ t.
    All-map (λ (part : Part). All HasFields part.calls) part_of c.args.actors.now
    (λ k d lt. c.loop-actor.invariant.fields k d (let n = c.loop-actor-test.false in omega arith))
