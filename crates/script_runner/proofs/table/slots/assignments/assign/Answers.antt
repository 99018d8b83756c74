use Rattle.std.proofs.Common.{Some, None, sym, refl, subst}
use Rattle.script_runner.proofs.TablePrelude.{FitsSlots}
use Rattle.script_runner.proofs.Filling.{fits_at, fits_less, fits_none, fits_swap}
use Rattle.script_runner.proofs.table.slots.assignments.assign.Goals as goal

pub let_go-requires-clause-held : goal.let_go-requires-clause-held
let_go-requires-clause-held g c =
    fits_at c.args.desk.now _ 0 c.in-Some.old
    (fits_swap c.args.desk.now c.args.slots.now.items c.args.to (Some c.args.handle) (Some c.in-Some.old) c.requires.fits c.in-Some.ensures.0) refl

pub returns-in-None-clause-fits : goal.returns-in-None-clause-fits
returns-in-None-clause-fits g c =
    subst (FitsSlots c.args.desk.now) (sym c.put.ensures.1)
    (fits_none c.args.desk.now _
    (fits_swap c.args.desk.now c.args.slots.now.items c.args.to (Some c.args.handle) None c.requires.fits c.in-None.ensures.0))

pub returns-in-None-clause-assigns : goal.returns-in-None-clause-assigns
returns-in-None-clause-assigns g c =
    record { old = None; was = c.in-None.ensures.0; slots = c.put.ensures.1; leaves = (refl, refl) }

pub returns-in-Some-clause-fits : goal.returns-in-Some-clause-fits
returns-in-Some-clause-fits g c =
    subst (FitsSlots c.let_go.new.desk) (sym c.put.ensures.1)
    (fits_less c.args.desk.now c.let_go.new.desk _ c.in-Some.old
    (fits_swap c.args.desk.now c.args.slots.now.items c.args.to (Some c.args.handle) (Some c.in-Some.old) c.requires.fits c.in-Some.ensures.0)
    c.let_go.ensures.bag c.let_go.ensures.held)

pub returns-in-Some-clause-assigns : goal.returns-in-Some-clause-assigns
returns-in-Some-clause-assigns g c =
    record { old = Some c.in-Some.old; was = c.in-Some.ensures.0; slots = c.put.ensures.1; leaves = (c.let_go.result, c.let_go.ensures.left) }
