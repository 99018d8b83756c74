use Rattle.control_word.proofs.worked.Cases as law
use Rattle.control_word.proofs.laws.history_laws.worked_cases.Goals as goal

pub returns : goal.returns
returns c = record {
  count_after_copy = law.count_after_copy;
  lock_keeps_alive = law.lock_keeps_alive;
  failed_compare_hands_out_held =
      law.failed_compare_hands_out_held;
  block_used_again = law.block_used_again;
  cycle_stays = law.cycle_stays;
  members_go_out = law.members_go_out;
  split_and_joined = law.split_and_joined;
}
