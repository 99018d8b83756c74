use Rattle.std.proofs.Common.{ℕ, subst}
use Rattle.owner_graph.proofs.Prelude.{All, is_weakened, row_at}
use Rattle.owner_graph.specs.OneKnot.{HasHolder}
use Rattle.owner_graph.proofs.certificates.one_knot.is_stuck.Goals as goal

pub returns-then-has_witness-clause-holders : goal.returns-then-has_witness-clause-holders
returns-then-has_witness-clause-holders c = λ yes.
    let index = c.args.index.now in
    subst (All (λ (b : ℕ). HasHolder (is_weakened c.args.knots.now c.args.knot.weakening)
    index.stays.items c.args.knots.now
    c.args.walk.now.ring.items c.args.knot.least (row_at index.rows.items b)))
    c.as_slice.ensures.value (c.are_held.ensures yes)
