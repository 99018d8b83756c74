use Rattle.control_word.proofs.funded.Looks as looks
use Rattle.control_word.proofs.laws.funded_laws.looks.Goals as goal

pub returns : goal.returns
returns g c = record {
  tell_count = looks.tells_count_funded;
  tell_expired = looks.tells_expired_funded;
  read = looks.reads_funded;
  look_on = looks.looks_on_funded;
  load_empty = looks.loads_empty_funded;
  differ_empty = looks.differs_empty_funded;
  tell_same = looks.tells_same_funded;
}
