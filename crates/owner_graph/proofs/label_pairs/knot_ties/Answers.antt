use Rattle.std.proofs.Common.{◌++◌, ◌∙◌, List, ap}
use Rattle.owner_graph.proofs.Prelude.{filter, Holding, is_tie, row_at}
use Rattle.owner_graph.proofs.Appends.{take_more}
use Rattle.owner_graph.proofs.label_pairs.knot_ties.Goals as goal

pub loop-member-preserved : goal.loop-member-preserved
loop-member-preserved c =
    let test = is_tie c.args.kept.now c.args.knots.now in
    take_more (λ (m : Holding). filter test (row_at c.args.sources.now m.from)) c.args.members.now
    c.loop-member.member-index _
    c.loop-member.ties.items c.add_ties.new.ties.items c.loop-member-test.true
    c.loop-member.invariant
    (c.in_ok-add_ties.ensures ∙ ap (λ (l : List Holding). c.loop-member.ties.items ++ filter test l)
    (c.row.ensures ∙ ap (row_at c.args.sources.now) c.as_index.ensures))
