use Rattle.std.proofs.Common.{◌≡◌, ap, subst, sym}
use Rattle.step_table.proofs.Prelude.{Extent, ghost_after_step, GhostState, OnShelf, Shelve, TableInvariant}
use Rattle.step_table.proofs.tables.Shelf.{kept_shelve, shelf_inside, shelves_words}
use Rattle.step_table.proofs.tables.Standing.{ghost_as, kept_as, kept_now}
use Rattle.step_table.proofs.memory.table.Table.shelve.Goals as goal

pub get-found-requires : goal.get-found-requires
get-found-requires c =
    let v = c.args.self.now in
    let k : TableInvariant v = kept_now _ _ _ _ v c.self.invariant c.self.view_is in
    shelf_inside v c.args.desk c.place_on_shelf-word.result c.args.block c.self.inside.words k c.requires.stored
    (ap (λ (s : GhostState). s.words) c.self.view_is) c.place_on_shelf-word.ensures

pub set-requires : goal.set-requires
set-requires c =
    let v = c.args.self.now in
    let k : TableInvariant v = kept_now _ _ _ _ v c.self.invariant c.self.view_is in
    shelf_inside v c.args.desk c.place_on_shelf-word.result c.args.block c.self.inside.words k c.requires.stored
    (ap (λ (s : GhostState). s.words) c.self.view_is) c.place_on_shelf-word.ensures

pub invariant_of-self : goal.invariant_of-self
invariant_of-self c =
    let v = c.args.self.now in
    let k : TableInvariant v = kept_now _ _ _ _ v c.self.invariant c.self.view_is in
    kept_as v c.args.desk (OnShelf c.args.block Shelve) _ _ _ _
    (kept_shelve v c.args.desk c.args.block k c.requires.seat c.requires.idle c.requires.stored) (ap (λ (s : GhostState). s.extent) c.self.view_is)
    (shelves_words v c.args.desk c.place_on_shelf-word.result c.get-found.result c.shelf_bit.result c.args.block c.self.inside.words c.set.new.self
    k c.requires.stored (ap (λ (s : GhostState). s.words) c.self.view_is) c.place_on_shelf-word.ensures c.get-found.ensures c.shelf_bit.ensures
    c.set.ensures)
    c.then-ghost_history.ensures

pub returns : goal.returns
returns c =
    let v = c.args.self.now in
    let past = c.then-ghost_history.result in
    let k : TableInvariant v = kept_now _ _ _ _ v c.self.invariant c.self.view_is in
    let words =
    shelves_words v c.args.desk c.place_on_shelf-word.result c.get-found.result c.shelf_bit.result c.args.block c.self.inside.words c.set.new.self
    k c.requires.stored (ap (λ (s : GhostState). s.words) c.self.view_is) c.place_on_shelf-word.ensures c.get-found.ensures c.shelf_bit.ensures
    c.set.ensures in
    subst (λ (x : Extent). ◌≡◌ {A = GhostState} (record { extent = x; words = c.set.new.self; views = past.views; history = past.history })
    (ghost_after_step v c.args.desk (OnShelf c.args.block Shelve))) (ap (λ (s : GhostState). s.extent) (sym c.self.view_is))
    (ghost_as v c.args.desk (OnShelf c.args.block Shelve) c.set.new.self past.history past.views words c.then-ghost_history.ensures)
