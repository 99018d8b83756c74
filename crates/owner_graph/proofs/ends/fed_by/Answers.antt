use Rattle.std.proofs.Common.{◌∙◌, arith, sym, true≢false}
use Rattle.owner_graph.proofs.Prelude.{is_weakened}
use Rattle.owner_graph.proofs.Feeds.{fed_more, fed_no_more}
use Rattle.owner_graph.proofs.ends.fed_by.Goals as goal

pub loop-handle-preserved : goal.loop-handle-preserved
loop-handle-preserved c =
    let inside = c.if-vertex-len.false in
    let len = c.len.ensures in
    fed_more (is_weakened c.args.knots.now c.args.weakening) c.args.handles.now
    c.loop-handle.handle-index c.as_index-vertex.result _ c.args.stays.now c.loop-handle.fed.items
    c.loop-handle-test.true c.as_index-vertex.ensures c.loop-handle.invariant
    (omega (arith, inside, len)) (c.feeds.ensures.0 c.if-not-feeds.false)

pub loop-handle-preserved-then-vertex-len : goal.loop-handle-preserved-then-vertex-len
loop-handle-preserved-then-vertex-len c =
    let outside = c.if-vertex-len.true in
    let len = c.len.ensures in
    fed_no_more (is_weakened c.args.knots.now c.args.weakening) c.args.handles.now
    c.loop-handle.handle-index c.as_index-vertex.result _ c.args.stays.now c.loop-handle.fed.items
    c.loop-handle-test.true c.as_index-vertex.ensures c.loop-handle.invariant
    (λ inside feeds. absurd (omega (arith, inside, outside, len)))

pub loop-handle-preserved-then-not-feeds : goal.loop-handle-preserved-then-not-feeds
loop-handle-preserved-then-not-feeds c =
    fed_no_more (is_weakened c.args.knots.now c.args.weakening) c.args.handles.now
    c.loop-handle.handle-index c.as_index-vertex.result _ c.args.stays.now c.loop-handle.fed.items
    c.loop-handle-test.true c.as_index-vertex.ensures c.loop-handle.invariant
    (λ inside feeds. absurd (true≢false (sym (c.feeds.ensures.1 feeds) ∙ c.if-not-feeds.true)))
