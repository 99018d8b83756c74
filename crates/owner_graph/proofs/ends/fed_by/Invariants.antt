use Rattle.std.proofs.Common.{take}
use Rattle.owner_graph.proofs.Prelude.{is_weakened, without}
use Rattle.owner_graph.proofs.Feeds.{AreFed}
use Rattle.owner_graph.proofs.ends.fed_by.Given as goal

abbrev pub invariant-loop-handle : goal.invariant-loop-handle
invariant-loop-handle l = AreFed
    (without (is_weakened l.knots l.weakening) (take l.handle-index l.handles)) l.stays l.fed.items
