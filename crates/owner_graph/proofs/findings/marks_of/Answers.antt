use Rattle.owner_graph.proofs.Among.{among_within}
use Rattle.owner_graph.proofs.findings.marks_of.Goals as goal

pub unreachable-requires : goal.unreachable-requires
unreachable-requires c =
    c.in-Err-Outside.ensures.outside c.in-Err-Outside.field-0-is
    (among_within c.args.vertices c.args.handles.now c.requires)
