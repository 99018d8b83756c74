use Rattle.control_word.proofs.funded.Words as words
use Rattle.control_word.proofs.funded.Resting as resting
use Rattle.control_word.proofs.laws.funded_laws.words.Goals as goal

pub returns : goal.returns
returns g c = record {
  begin = words.begins_funded;
  have_headroom = words.has_headroom_funded;
  rests_exactly = resting.rests_exactly_funded;
  counts_exactly = resting.counts_exactly_funded;
  sole_has_seen_all = resting.sole_has_seen_all_funded;
}
