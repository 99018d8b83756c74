use Rattle.owner_graph.proofs.Steps.{same_labels}
use Rattle.owner_graph.proofs.labels.knots.Goals as goal

pub are_knots-requires-clause-same : goal.are_knots-requires-clause-same
are_knots-requires-clause-same c =
    same_labels c.in_ok-certificate.certificate.firsts.items c.in_ok-certificate.certificate.ranks.items
    c.as_slice-ranks.result.now c.in_ok-labels.labels.items
    c.as_slice.result.now c.args.vertices c.as_slice-ranks.ensures.value c.as_slice.ensures.value
    c.in_ok-labels.ensures.labels
