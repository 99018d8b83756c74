use Rattle.std.proofs.Common.{Some, refl}
use Rattle.shared_vec.proofs.Ways.{loaded_at, way_begins, way_ends, way_on}
use Rattle.shared_vec.proofs.leaf.descend_or_make.Goals as goal

pub loop-level-init : goal.loop-level-init
loop-level-init g c = way_begins g.D.Domain.opened c.args.index c.args.level c.args.node c.requires

pub loop-level-preserved : goal.loop-level-preserved
loop-level-preserved g c =
    let o = g.D.Domain.opened in
    way_on o c.args.index c.args.level c.args.node c.loop-level.level c.loop-level.node c.in_ok-below.below
    c.loop-level.invariant c.loop-level-test.true
    (loaded_at o c.args.index c.loop-level.level c.number_at.result c.loop-level.node c.owner-place.result
    (Some c.in_ok-below.below) (Some c.in_ok-below.below) c.number_at.ensures c.owner-place.ensures
    c.in_ok-below.ensures.loaded refl)

pub returns-clause-reached : goal.returns-clause-reached
returns-clause-reached g c =
    way_ends g.D.Domain.opened c.args.index c.args.level c.args.node c.loop-level.level c.loop-level.node
    c.loop-level.invariant c.loop-level-test.false
