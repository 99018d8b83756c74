use Rattle.control_word.proofs.history.Given as given
use Rattle.control_word.proofs.history.Formation as formation
use Rattle.control_word.proofs.history.Storing as storing
use Rattle.control_word.proofs.history.Stores as stores
use Rattle.control_word.proofs.history.Endings as endings
use Rattle.control_word.proofs.laws.history_laws.handles.Goals as goal

pub returns : goal.returns
returns g c = record {
  names_an_object = given.names_an_object;
  are_formed = formation.are_formed;
  stays_the_latest = endings.stays_the_latest;
  stored_once = storing.stored_once;
  stores_of_desks = stores.stores_of_desks;
  shelf_has_all = stores.shelf_has_all;
}
