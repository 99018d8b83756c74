use Rattle.control_word.proofs.history.Made as made
use Rattle.control_word.proofs.history.Given as given
use Rattle.control_word.proofs.history.Endings as endings
use Rattle.control_word.proofs.history.Kept as kept
use Rattle.control_word.proofs.history.Blocks as blocks
use Rattle.control_word.proofs.laws.history_laws.objects.Goals as goal

pub returns : goal.returns
returns g c = record {
  gives_once = made.gives_once;
  live_while_owned = given.live_while_owned;
  stays_expired = given.stays_expired;
  ends_in_hands = endings.ends_in_hands;
  ends_still = endings.ends_still;
  stays_as_made = kept.stays_as_made;
  few_at_once = blocks.few_at_once;
}
