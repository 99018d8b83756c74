use Rattle.std.proofs.Common.{sym, ◌∙◌}
use Rattle.owner_graph.proofs.Prelude.{is_tie}
use Rattle.owner_graph.proofs.WeakeningLemmas.{passes_more, passes_no_more}
use Rattle.owner_graph.proofs.label_pairs.add_ties.Goals as goal

pub loop-handle-preserved : goal.loop-handle-preserved
loop-handle-preserved c =
    passes_more (is_tie c.args.kept.now c.args.knots.now) c.args.handles.now c.args.ties.now.items
    c.loop-handle.ties.items
    c.push.new.self.items c.loop-handle.handle-index _ c.loop-handle-test.true
    c.loop-handle.invariant
    (sym c.is_tie.ensures ∙ c.if-not-is_tie.false) c.in_ok-push.ensures.items

pub loop-handle-preserved-then-not-is_tie : goal.loop-handle-preserved-then-not-is_tie
loop-handle-preserved-then-not-is_tie c =
    passes_no_more (is_tie c.args.kept.now c.args.knots.now) c.args.handles.now
    c.args.ties.now.items c.loop-handle.ties.items
    c.loop-handle.handle-index _ c.loop-handle-test.true c.loop-handle.invariant
    (sym c.is_tie.ensures ∙ c.if-not-is_tie.true)
