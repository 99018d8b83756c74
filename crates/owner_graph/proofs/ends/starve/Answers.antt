use Rattle.std.proofs.Common.{◌≡◌, ◌<◌, ◌∙◌, Bool, arith, false, get_or, length, subst, sym, true}
use Rattle.owner_graph.proofs.Feeds.{starved_one}
use Rattle.owner_graph.proofs.Steps.{same_at}
use Rattle.owner_graph.proofs.ends.starve.Goals as goal

pub loop-vertex-preserved : goal.loop-vertex-preserved
loop-vertex-preserved c =
    let lt = c.loop-vertex-test.true in
    let size = c.loop-vertex.invariant.starves.size in
    let all = c.requires in
    let inside : c.loop-vertex.vertex < length c.loop-vertex.stays.items = omega
    (arith, lt, size, all) in
    starved_one c.args.fed.now c.args.stays.now.items c.loop-vertex.stays.items c.loop-vertex.vertex
    c.loop-vertex.found c.loop-vertex.invariant
    c.if-vertex-eq0.false inside
    (same_at c.loop-vertex.stays.items c.loop-vertex.vertex false true inside
    ∙ sym (subst (λ (t : Bool). t ≡ get_or c.loop-vertex.stays.items c.loop-vertex.vertex t)
    c.if-not-index.false c.index.ensures))
    c.if-fed-vertex.false
