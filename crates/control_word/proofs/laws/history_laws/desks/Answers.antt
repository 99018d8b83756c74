use Rattle.control_word.proofs.history.Allowances as allowances
use Rattle.control_word.proofs.views.Resting as resting
use Rattle.control_word.proofs.history.Sole as sole
use Rattle.control_word.proofs.history.Names as names
use Rattle.control_word.proofs.laws.history_laws.desks.Goals as goal

pub returns : goal.returns
returns g c = record {
  allowances_add_up = allowances.allowances_add_up;
  sole_has_seen_all = resting.sole_has_seen_all;
  nothing_unseen = sole.nothing_unseen;
  joined_is_quiet = names.joined_is_quiet;
  unnamed_is_quiet = names.unnamed_is_quiet;
}
