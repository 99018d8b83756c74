use Rattle.owner_graph.proofs.FindingLemmas.{all_found}
use Rattle.owner_graph.proofs.findings.Findings.new.Goals as goal

pub returns : goal.returns
returns c =
    all_found c.args.vertices c.args.handles.now _ c.as_slice-marks.result.now
    c.as_slice-labels.result.now c.as_slice-marks.ensures.value
    c.as_slice-labels.ensures.value c.in_ok-kept.ensures c.in_ok-knots.ensures
    c.in_ok-lookup.ensures.index c.in_ok-sources.ensures.rows
    c.in_ok-cuts.ensures c.in_ok-weakenings.ensures
