use Rattle.control_word.proofs.steps.Split as split
use Rattle.control_word.proofs.steps.Join as join
use Rattle.control_word.proofs.laws.step_laws.desks.Goals as goal

pub returns : goal.returns
returns g c = record {
  split = split.splits;
  cut_view = split.cuts_view;
  merge_views = join.merges_views;
  join = join.joins;
}
