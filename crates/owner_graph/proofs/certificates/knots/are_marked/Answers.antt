use Rattle.std.proofs.Common.{◌≡◌, ◌+◌, ℕ, true, false, subst}
use Rattle.owner_graph.proofs.Prelude.{slice_index_or}
use Rattle.owner_graph.proofs.Steps.{next_low}
use Rattle.owner_graph.proofs.certificates.knots.are_marked.Goals as goal

pub loop-before-preserved : goal.loop-before-preserved
loop-before-preserved c =
    next_low (λ b. slice_index_or c.args.marks.now b false ≡ true) c.loop-before.before
    c.loop-before.invariant
    (subst (λ (k : ℕ). slice_index_or c.args.marks.now (k + 1) false ≡ true) c.as_index.ensures
    c.if-not-marks-as_index.false)
