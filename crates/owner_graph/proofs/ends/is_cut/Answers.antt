use Rattle.std.proofs.Common.{◌≡◌, ◌+◌, ◌<◌, arith, false, length}
use Rattle.owner_graph.proofs.Prelude.{at, is_weakened, marked}
use Rattle.owner_graph.proofs.CutLemmas.{all_cut, no_cut}
use Rattle.owner_graph.proofs.Steps.{false_at, label_same, next_low, true_at}
use Rattle.owner_graph.proofs.ends.is_cut.Goals as goal

pub loop-before-preserved : goal.loop-before-preserved
loop-before-preserved c =
    next_low (λ a. at c.args.knots.now a ≡ at c.args.knots.now c.args.vertex
    → marked c.in_ok-stays.stays.items a ≡ false) c.loop-before.before
    c.loop-before.invariant
    (λ same. false_at c.in_ok-stays.stays.items c.as_index-number.result c.loop-before.before
    c.index.result.now c.as_index-number.ensures c.index.ensures
    c.if-index.false)

pub returns-then-index : goal.returns-then-index
returns-then-index c =
    let lt = c.loop-before-test.true in
    let size = c.in_ok-stays.ensures.size in
    let inside : c.loop-before.before + 1 < length c.in_ok-stays.stays.items = omega
    (arith, lt, size) in
    no_cut c.args.vertices c.args.handles.now c.args.knots.now c.requires.knots c.args.vertex
    c.requires.vertex.0 c.requires.vertex.1 (is_weakened c.args.knots.now c.args.weakening)
    c.in_ok-stays.stays.items c.in_ok-stays.ensures.ends (c.loop-before.before + 1) (omega arith)
    (omega (arith, lt))
    (label_same c.args.knots.now c.as_index-number.result c.loop-before.before c.as_index.result
    c.args.vertex c.at.result c.at-least.result c.as_index-number.ensures
    c.as_index.ensures c.at.ensures c.at-least.ensures c.if-at-least.false)
    (true_at c.in_ok-stays.stays.items c.as_index-number.result c.loop-before.before
    c.index.result.now c.as_index-number.ensures inside c.index.ensures
    c.if-index.true)

pub returns : goal.returns
returns c =
    let past = c.loop-before-test.false in
    all_cut c.args.vertices c.args.handles.now c.args.knots.now c.requires.knots c.args.vertex
    c.requires.vertex.0 c.requires.vertex.1 (is_weakened c.args.knots.now c.args.weakening)
    c.in_ok-stays.stays.items c.in_ok-stays.ensures.ends
    (λ a some le. c.loop-before.invariant a some (omega (arith, past, le)))
