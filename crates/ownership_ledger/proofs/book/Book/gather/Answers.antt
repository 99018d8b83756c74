use Rattle.std.proofs.Common.{sym, ap, ◌∙◌}
use Rattle.ownership_ledger.proofs.Ends.{AreSums, ends}
use Rattle.ownership_ledger.proofs.book.Book.gather.Goals as goal

sums : (c : goal.After-free)
    → AreSums c.args.shares.items record { made = c.word.result; ended = c.word-2.result }
sums c =
    let final = c.close_with-closed.ensures.values.2 in
    let all = c.join_all-seat.ensures.shares in
    let count = c.requires.all ∙ sym (ap (λ b. b.workers) c.self.view_is) in
    ends _ _ c.args.shares.items _ _ _ _ final all count c.word.ensures c.word-2.ensures

pub returns-clause-made : goal.returns-clause-made
returns-clause-made c = (sums c).0

pub returns-clause-ended : goal.returns-clause-ended
returns-clause-ended c = (sums c).1

pub returns-clause-seen : goal.returns-clause-seen
returns-clause-seen c = (sums c).2
