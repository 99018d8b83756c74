use Rattle.control_word.proofs.funded.Counts as counts
use Rattle.control_word.proofs.laws.funded_laws.counts.Goals as goal

pub returns : goal.returns
returns g c = record {
  share = counts.shares_funded;
  leave = counts.leaves_funded;
  weak_share = counts.weak_shares_funded;
  weak_leave = counts.weak_leaves_funded;
  finish = counts.finishes_funded;
  find_finished = counts.finds_finished_funded;
  lock = counts.locks_funded;
}
