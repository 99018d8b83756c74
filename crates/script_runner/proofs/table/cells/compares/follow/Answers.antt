use Rattle.std.proofs.Common.{List, set, None, sym, refl, subst}
use Rattle.script_runner.proofs.TablePrelude.{FitsSlots, Slot}
use Rattle.script_runner.proofs.Filling.{fits_at, fits_less}
use Rattle.script_runner.proofs.table.cells.compares.follow.Goals as goal

pub let_go-requires-clause-held : goal.let_go-requires-clause-held
let_go-requires-clause-held g c =
    fits_at c.args.desk.now _ 0 c.args.found (c.requires.swapped c.if-swapped.true) refl

pub returns-then-swapped-clause-fits : goal.returns-then-swapped-clause-fits
returns-then-swapped-clause-fits g c =
    subst (λ (l : List Slot). FitsSlots c.let_go.new.desk l) (sym c.take_handle.ensures.1)
    (fits_less c.args.desk.now c.let_go.new.desk (set c.args.slots.now.items c.args.desired None) c.args.found (c.requires.swapped c.if-swapped.true)
    c.let_go.ensures.bag c.let_go.ensures.held)
