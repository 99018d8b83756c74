use Rattle.control_word.proofs.funded.Words as words
use Rattle.control_word.proofs.laws.funded_laws.shelf.Goals as goal

pub returns : goal.returns
returns g c = record {
  show_shelf = words.shelf_shows_funded;
  shelve = words.shelves_funded;
  unshelve = words.unshelves_funded;
  write_summary = words.writes_summary_funded;
}
