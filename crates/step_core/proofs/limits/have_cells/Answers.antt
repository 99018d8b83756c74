use Rattle.std.proofs.Common.{◌≡◌, true, false, sym, refl, subst, arith}
use Rattle.step_core.proofs.Prelude.{Actor, All-map, AllHaveCells, part_of}
use Rattle.step_core.proofs.Programs.{all_mapped}
use Rattle.step_core.proofs.limits.have_cells.Goals as goal

pub returns-then-not-has_all_cells : goal.returns-then-not-has_all_cells
returns-then-not-has_all_cells c = (
  λ t. absurd (let k : ◌≡◌ false true = t in cc),
  λ all. c.if-not-has_all_cells.ensures.1 (subst (λ (a : Actor). AllHaveCells c.args.shape.now (part_of a)) (sym c.actor-item.is)
      (all_mapped (AllHaveCells c.args.shape.now) part_of c.args.actors.now all c.loop-actor.actor-index c.actor-item.result c.loop-actor-test.true)),
)

pub returns : goal.returns
returns c = (
  λ t. All-map (AllHaveCells c.args.shape.now) part_of c.args.actors.now
      (λ k d lt. c.loop-actor.invariant k d (let n = c.loop-actor-test.false in omega arith)),
  λ a. refl,
)
