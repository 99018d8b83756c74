use Rattle.control_word.proofs.funded.Making as making
use Rattle.control_word.proofs.laws.funded_laws.making.Goals as goal

pub returns : goal.returns
returns g c = record {
  write_weak_word = making.writes_weak_word_funded;
  find_weak_word = making.finds_weak_word_funded;
  write_word = making.writes_word_funded;
  claim = making.claims_funded;
}
