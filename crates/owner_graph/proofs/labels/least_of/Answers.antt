use Rattle.std.proofs.Common.{◌≡◌, false, arith}
use Rattle.owner_graph.proofs.Prelude.{slice_index_or}
use Rattle.owner_graph.proofs.Among.{among_within}
use Rattle.owner_graph.proofs.Steps.{false_at, least_is, next_low, none_is, true_at}
use Rattle.owner_graph.proofs.labels.least_of.Goals as goal

pub unreachable-requires : goal.unreachable-requires
unreachable-requires c =
    c.in-Err-Outside.ensures.outside c.in-Err-Outside.field-0-is
    (among_within c.args.vertices c.args.handles.now c.requires.among)

pub loop-before-preserved : goal.loop-before-preserved
loop-before-preserved c =
    next_low (λ k. slice_index_or c.in-Ok.marks.items k false ≡ false) c.loop-before.before
    c.loop-before.invariant
    (false_at c.in-Ok.marks.items c.as_index.result c.loop-before.before c.index.result.now
    c.as_index.ensures c.index.ensures c.if-index.false)

pub returns-then-index : goal.returns-then-index
returns-then-index c =
    let size = c.in-Ok.ensures.size in
    let lt = c.loop-before-test.true in
    least_is c.args.vertices c.args.handles.now c.in-Ok.marks.items c.args.vertex c.requires.among
    c.requires.vertex.1 c.in-Ok.ensures.knot
    c.loop-before.before lt c.loop-before.invariant
    (true_at c.in-Ok.marks.items c.as_index.result c.loop-before.before c.index.result.now
    c.as_index.ensures (omega (arith, size, lt)) c.index.ensures c.if-index.true)

pub returns : goal.returns
returns c =
    let past = c.loop-before-test.false in
    none_is c.args.vertices c.args.handles.now c.in-Ok.marks.items c.args.vertex c.requires.among
    c.requires.vertex.1 c.in-Ok.ensures.knot
    c.requires.vertex.0 (λ k some le. c.loop-before.invariant k some (omega (arith, past, le)))
