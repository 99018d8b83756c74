use Rattle.control_word.proofs.steps.Shelf as shelf
use Rattle.control_word.proofs.laws.step_laws.shelf.Goals as goal

pub returns : goal.returns
returns g c = record {
  show_shelf = shelf.shelf_shows;
  shelve = shelf.shelves';
  unshelve = shelf.unshelves';
}
