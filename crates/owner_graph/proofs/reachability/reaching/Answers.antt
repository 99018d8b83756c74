use Rattle.std.proofs.Common.{rules, ◌≡◌, ◌∙◌, ◌+◌, List, refl, subst, sym}
use Rattle.owner_graph.proofs.Prelude.{AreWithin, back_edges, Edge, MarksLed, owner_edges}
use Rattle.owner_graph.specs.declared.directed_graph.graph.GraphError.TheVariants.{Outside}
use Rattle.owner_graph.proofs.Backwards.{led, within_back}
use Rattle.owner_graph.proofs.reachability.reaching.Goals as goal

pub returns-clause-size : goal.returns-clause-size
returns-clause-size c =
    let led = c.in_ok-marked.ensures.led in
    led.marks.size ∙ led.rows.size

pub returns-clause-reaching : goal.returns-clause-reaching
returns-clause-reaching c =
    let es = back_edges (owner_edges c.args.handles.now) in
    let e : c.as_slice.result.now ≡ es = c.as_slice.ensures.value ∙ c.in_ok-back.ensures in
    let here : MarksLed c.args.vertices es c.args.vertex c.in_ok-marked.marked.items =
    subst (λ (l : List Edge). MarksLed c.args.vertices l c.args.vertex c.in_ok-marked.marked.items)
    e c.in_ok-marked.ensures.led in
    led here.graph c.args.handles.now here.rows.rows c.in_ok-marked.marked.items c.args.vertices _
    c.args.vertex here.rows.size refl
    here.marks

pub returns-in_err-marked-clause-outside : goal.returns-in_err-marked-clause-outside
returns-in_err-marked-clause-outside c =
    let es = owner_edges c.args.handles.now in
    let e : c.as_slice.result.now ≡ back_edges es = c.as_slice.ensures.value
    ∙ c.in_ok-back.ensures in
    let o : c.in_err-marked.field-0.0 ≡ Outside → AreWithin (c.args.vertices + 1) es → ⊥ =
    λ is all. c.in_err-marked.ensures.outside is
    (subst (λ (l : List Edge). AreWithin (c.args.vertices + 1) l) (sym e)
    (within_back (c.args.vertices + 1) es all)) in
    search (rules, o)
