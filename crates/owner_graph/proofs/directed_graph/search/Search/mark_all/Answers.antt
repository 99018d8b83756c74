use Rattle.std.proofs.Common.{◌∙◌, get_or, length, take, ap, sym, arith}
use Rattle.owner_graph.proofs.Prelude.{mark, Marks, marks_of}
use Rattle.owner_graph.proofs.Marks.{all_more, all_size}
use Rattle.owner_graph.proofs.directed_graph.search.Search.mark_all.Goals as goal

pub mark-requires : goal.mark-requires
mark-requires c =
    let r = c.requires c.loop-vertex.vertex-index 0 c.loop-vertex-test.true in
    let e = ap (λ (m : Marks). length m.marked) c.loop-vertex.invariant
    ∙ all_size (take c.loop-vertex.vertex-index c.args.vertices.now) (marks_of c.args.self.now) in
    omega (arith, r, e, c.args.self.now.marked.ok.0, c.loop-vertex.self.marked.ok.0)

pub loop-vertex-preserved : goal.loop-vertex-preserved
loop-vertex-preserved c =
    c.in_ok-mark.ensures
    ∙ ap (λ (m : Marks). mark m (get_or c.args.vertices.now c.loop-vertex.vertex-index 0)) c.loop-vertex.invariant
    ∙ sym (all_more c.args.vertices.now c.loop-vertex.vertex-index (marks_of c.args.self.now) c.loop-vertex-test.true)
