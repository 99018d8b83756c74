use Rattle.control_word.proofs.steps.Bring as bring
use Rattle.control_word.proofs.steps.GiveBack as give_back
use Rattle.control_word.proofs.steps.LeaveWithFunds as leave
use Rattle.control_word.proofs.steps.Take as take
use Rattle.control_word.proofs.steps.Turn as turn
use Rattle.control_word.proofs.steps.Refill as refill
use Rattle.control_word.proofs.laws.step_laws.funds.Goals as goal

pub returns : goal.returns
returns g c = record {
  bring = bring.brings;
  give_back = give_back.gives_back;
  leave_with_funds = leave.leaves_with_funds;
  weak_leave_with_funds = leave.weak_leaves_with_funds;
  take = take.takes;
  turn = turn.turns;
  refill = refill.refills;
}
