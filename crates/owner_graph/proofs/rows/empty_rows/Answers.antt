use Rattle.owner_graph.proofs.RowLemmas.{row_more}
use Rattle.owner_graph.proofs.rows.empty_rows.Goals as goal

pub loop-vertex-preserved : goal.loop-vertex-preserved
loop-vertex-preserved c =
    row_more c.loop-vertex.rows.items c.push.new.self.items _ c.loop-vertex._vertex
    c.in_ok-push.ensures.items c.new.ensures.items c.loop-vertex.invariant.0
    c.loop-vertex.invariant.1
