use Rattle.control_word.proofs.funded.Words as words
use Rattle.control_word.proofs.funded.Desks as desks
use Rattle.control_word.proofs.laws.funded_laws.doors_and_desks.Goals as goal

pub returns : goal.returns
returns g c = record {
  shut_door = words.shuts_funded;
  open_door = words.opens_funded;
  split = desks.splits_funded;
  cut_view = desks.cuts_view_funded;
  merge_views = desks.merges_views_funded;
  join = desks.joins_funded;
}
