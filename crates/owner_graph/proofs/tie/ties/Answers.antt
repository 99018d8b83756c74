use Rattle.std.proofs.Common.{arith}
use Rattle.owner_graph.proofs.Prelude.{ties_by}
use Rattle.owner_graph.proofs.Appends.{take_more}
use Rattle.owner_graph.proofs.TieLemmas.{label_among, tied_more}
use Rattle.owner_graph.proofs.tie.ties.Goals as goal

pub add_tie-requires : goal.add_tie-requires
add_tie-requires c = λ some.
    let in_vertex = (c.requires.among c.loop-handle.handle-index _ c.loop-handle-test.true).0 in
    let low = (label_among c.args.vertices c.args.handles.now c.args.knots.now c.requires.among
    c.requires.knots _ some in_vertex).1 in
    let fits = c.ranges.vertices.fits in
    omega (arith, low, fits)

pub loop-handle-preserved : goal.loop-handle-preserved
loop-handle-preserved c =
    let more = tied_more c.args.vertices c.args.handles.now c.args.kept.now c.args.knots.now
    c.requires.among c.requires.knots
    c.loop-handle.handle-index _ c.loop-handle-test.true c.loop-handle.ties.items
    c.add_tie.new.ties.items c.in_ok-add_tie.ensures
    c.loop-handle.invariant.1 c.loop-handle.invariant.2 c.loop-handle.invariant.3 in (
      take_more (ties_by c.args.kept.now c.args.knots.now) c.args.handles.now
          c.loop-handle.handle-index _
          c.loop-handle.ties.items c.add_tie.new.ties.items c.loop-handle-test.true
          c.loop-handle.invariant.0 c.in_ok-add_tie.ensures,
      more.0,
      more.1,
      more.2,
    )
