use Rattle.std.proofs.Common.{◌+◌, ℕ, subst}
use Rattle.owner_graph.proofs.Prelude.{HasRows, MarksReached}
use Rattle.owner_graph.proofs.reachability.led_to.Goals as goal

pub returns-clause-led : goal.returns-clause-led
returns-clause-led c = record {
  graph = c.in_ok-graph.graph;
  rows = subst (λ (n : ℕ). HasRows (n + 1) c.args.edges.now c.in_ok-graph.graph)
      c.as_index-vertices.ensures c.in_ok-graph.ensures.rows;
  marks = subst (λ (b : ℕ). MarksReached c.in_ok-graph.graph b c.in_ok-marked.marked.items)
      c.as_index.ensures c.in_ok-marked.ensures;
}
