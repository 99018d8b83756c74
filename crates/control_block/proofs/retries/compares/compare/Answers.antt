use Rattle.std.proofs.Common.{sym, ◌∙◌, subst, rules}
use Rattle.control_block.proofs.Prelude.{At, IsWordOf}
use Rattle.control_block.proofs.cells.CellTries.{aim_at, offer_at, out_since}
use Rattle.control_block.proofs.retries.compares.compare.Goals as goal
use Rattle.control_word.specs.HandleWords.{cell_of_handle}

pub try_compare-requires-clause-aim : goal.try_compare-requires-clause-aim
try_compare-requires-clause-aim g c = let l = c.loop.invariant in aim_at c.requires.aim l.2 l.3

pub try_compare-requires-clause-expected : goal.try_compare-requires-clause-expected
try_compare-requires-clause-expected g c =
    subst (λ (y : At g.row.V.Denot). IsWordOf y.0 g.A.CellArgs.expected (cell_of_handle c.args.expected)) (sym c.loop.invariant.3) c.requires.expected

pub try_compare-requires-clause-offer : goal.try_compare-requires-clause-offer
try_compare-requires-clause-offer g c = offer_at c.args.seat.now.me c.loop.seat.me c.requires.offer c.loop.invariant.3

pub returns-in-Some-try_compare-clause-table : goal.returns-in-Some-try_compare-clause-table
returns-in-Some-try_compare-clause-table g c = c.try_compare.ensures.table ∙ c.loop.invariant.2

pub returns-in-Some-try_compare-clause-compared : goal.returns-in-Some-try_compare-clause-compared
returns-in-Some-try_compare-clause-compared g c = out_since c.in-Some-try_compare.ensures.compared c.loop.invariant.3

pub loop-preserved : goal.loop-preserved
loop-preserved g c =
    let t = c.try_compare.ensures in let l = c.loop.invariant in
    (search rules, search rules, t.table ∙ l.2, t.missed c.in_default.is ∙ l.3)
