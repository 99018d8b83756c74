use Rattle.std.proofs.Common.{◌≡◌, ℕ, List}
use Rattle.owner_graph.proofs.Prelude.{AreWeakenings, at, knot_ties, LabelPair, labels_of}
use Rattle.owner_graph.proofs.WeakeningLemmas.{pairs_pushed}
use Rattle.owner_graph.proofs.findings.all_weakenings.Goals as goal

pub loop-before-preserved : goal.loop-before-preserved
loop-before-preserved c =
    let hs = c.args.handles.now in
    pairs_pushed (λ (k : ℕ) (ws : List LabelPair). at c.args.knots.now k ≡ k
    → AreWeakenings c.args.vertices hs c.args.knots.now k
    (labels_of (knot_ties c.args.kept.now c.args.knots.now c.args.vertices hs k)) ws)
    c.loop-before.all.items c.push-in-loop-before.new.self.items
    c.in_ok-found.found c.loop-before.before c.in_ok-push-2.ensures.items c.loop-before.invariant.0
    c.loop-before.invariant.1 c.in_ok-found.ensures
