use Rattle.owner_graph.proofs.Prelude.{labels_of}
use Rattle.owner_graph.proofs.WeakeningLemmas.{label_known, label_new}
use Rattle.owner_graph.proofs.label_pairs.labels_of.Goals as goal

pub loop-handle-preserved : goal.loop-handle-preserved
loop-handle-preserved c =
    label_new c.args.handles.now c.loop-handle.labels.items c.as_slice.result.now
    c.push.new.self.items c.loop-handle.handle-index _
    (labels_of c.args.handles.now) c.has_label.result c.loop-handle-test.true
    c.as_slice.ensures.value c.has_label.ensures
    c.if-has_label.false c.in_ok-push.ensures.items c.loop-handle.invariant

pub loop-handle-preserved-then-has_label : goal.loop-handle-preserved-then-has_label
loop-handle-preserved-then-has_label c =
    label_known c.args.handles.now c.loop-handle.labels.items c.as_slice.result.now
    c.loop-handle.handle-index _
    (labels_of c.args.handles.now) c.has_label.result c.loop-handle-test.true
    c.as_slice.ensures.value c.has_label.ensures
    c.if-has_label.true c.loop-handle.invariant
