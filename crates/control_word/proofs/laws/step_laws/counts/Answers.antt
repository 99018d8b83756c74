use Rattle.control_word.proofs.steps.Share as share
use Rattle.control_word.proofs.steps.Leave as leave
use Rattle.control_word.proofs.steps.WeakShare as weak_share
use Rattle.control_word.proofs.steps.WeakLeave as weak_leave
use Rattle.control_word.proofs.steps.Finish as finish
use Rattle.control_word.proofs.steps.Lock as lock
use Rattle.control_word.proofs.laws.step_laws.counts.Goals as goal

pub returns : goal.returns
returns g c = record {
  share = share.shares;
  leave = leave.leaves';
  weak_share = weak_share.weak_shares;
  weak_leave = weak_leave.weak_leaves';
  finish = finish.finishes';
  find_finished = finish.finds_finished;
  lock = lock.locks;
}
