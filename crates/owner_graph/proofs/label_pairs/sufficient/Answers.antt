use Rattle.std.proofs.Common.{[], List, subst, sym, true≢false, ◌∙◌}
use Rattle.owner_graph.proofs.Prelude.{AreThose, LabelPair, NoMore, Suffices}
use Rattle.owner_graph.proofs.Inside.{labelled_inside}
use Rattle.owner_graph.proofs.WeakeningLemmas.{those_more, those_no_more}
use Rattle.owner_graph.proofs.label_pairs.sufficient.Goals as goal

pub loop-pair-init : goal.loop-pair-init
loop-pair-init c =
    subst (λ (l : List LabelPair). AreThose
    (Suffices c.args.vertices c.args.handles.now c.args.knots.now c.args.least) [] l)
    (sym c.new-found.ensures.items) NoMore

pub ends_without-requires-clause-inside : goal.ends_without-requires-clause-inside
ends_without-requires-clause-inside c = labelled_inside c.args.knots.now c.args.least _ _

pub loop-pair-preserved : goal.loop-pair-preserved
loop-pair-preserved c =
    those_more (Suffices c.args.vertices c.args.handles.now c.args.knots.now c.args.least)
    c.args.pairs.now c.loop-pair.found.items
    c.push.new.self.items c.loop-pair.pair-index _ c.loop-pair-test.true c.loop-pair.invariant
    c.in_ok-push.ensures.items
    (c.in_ok-ends.ensures.0 c.if-not-ends.false)

pub loop-pair-preserved-then-not-ends : goal.loop-pair-preserved-then-not-ends
loop-pair-preserved-then-not-ends c =
    those_no_more (Suffices c.args.vertices c.args.handles.now c.args.knots.now c.args.least)
    c.args.pairs.now c.loop-pair.found.items
    c.loop-pair.pair-index _ c.loop-pair-test.true c.loop-pair.invariant
    (λ is. true≢false (sym (c.in_ok-ends.ensures.1 is) ∙ c.if-not-ends.true))
