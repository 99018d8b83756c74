use Rattle.std.proofs.Common.{ap, arith, List, ◌∙◌}
use Rattle.owner_graph.proofs.Prelude.{Edge, leading}
use Rattle.std.proofs.lemmas.List.{take_all}
use Rattle.owner_graph.proofs.MoreEdges.{edge_more}
use Rattle.owner_graph.proofs.directed_graph.graph.rows_of.Goals as goal

pub loop-edge-preserved : goal.loop-edge-preserved
loop-edge-preserved c =
    let f = (c.requires c.loop-edge.edge-index (record { from = 0; to = 0 }) c.loop-edge-test.true).0 in
    let n = c.loop-edge.invariant.0 in
    edge_more c.loop-edge.rows.items c.args.edges.now c.args.vertices c.loop-edge.edge-index c.index_mut.result.now c.push.new.self
    c.loop-edge-test.true n c.loop-edge.invariant.1 (omega (arith, f, n)) c.index_mut.ensures.value c.in_ok-push.ensures.items

pub returns : goal.returns
returns c = record {
  size = c.loop-edge.invariant.0;
  rows = λ v. c.loop-edge.invariant.1 v ∙ ap (λ (l : List Edge). leading l v) (take_all c.loop-edge.edge-index c.args.edges.now c.loop-edge-test.false);
}
