use Rattle.std.proofs.Common.{◌≡◌, ◌∙◌, List, refl, subst}
use Rattle.owner_graph.proofs.Prelude.{Edge, MarksLed, owner_edges}
use Rattle.owner_graph.proofs.OwnerLemmas.{leads}
use Rattle.owner_graph.proofs.reachability.reached.Goals as goal

pub returns-clause-size : goal.returns-clause-size
returns-clause-size c =
    let led = c.in_ok-marked.ensures.led in
    led.marks.size ∙ led.rows.size

pub returns-clause-reached : goal.returns-clause-reached
returns-clause-reached c =
    let e : c.as_slice.result.now ≡ owner_edges c.args.handles.now = c.as_slice.ensures.value
    ∙ c.in_ok-edges.ensures in
    let led : MarksLed c.args.vertices (owner_edges c.args.handles.now) c.args.vertex
    c.in_ok-marked.marked.items =
    subst (λ (es : List Edge). MarksLed c.args.vertices es c.args.vertex
    c.in_ok-marked.marked.items) e c.in_ok-marked.ensures.led in
    leads led.graph c.args.handles.now c.in_ok-marked.marked.items c.args.vertices _ c.args.vertex
    led.rows.size refl
    led.rows.rows led.marks
