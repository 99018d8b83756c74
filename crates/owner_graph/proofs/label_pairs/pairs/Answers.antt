use Rattle.std.proofs.Common.{arith}
use Rattle.owner_graph.proofs.Prelude.{pairs}
use Rattle.owner_graph.proofs.WeakeningLemmas.{pairs_done, pairs_next}
use Rattle.owner_graph.proofs.label_pairs.pairs.Goals as goal

pub loop-left-preserved : goal.loop-left-preserved
loop-left-preserved c =
    pairs_next c.loop-left.left.now (pairs c.args.labels.now) c.loop-left.pairs.items
    c.add_pairs.new.pairs.items c.in-len1-up.len_at_least
    c.loop-left.invariant c.in_ok-add_pairs.ensures

pub returns : goal.returns
returns c =
    let past = c.in_default.len_below in
    pairs_done c.loop-left.left.now (pairs c.args.labels.now) c.loop-left.pairs.items
    (omega (arith, past)) c.loop-left.invariant
