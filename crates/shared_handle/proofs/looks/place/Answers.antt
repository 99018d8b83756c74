use Rattle.std.proofs.Common.{Option, sym, subst}
use Rattle.shared_handle.proofs.Prelude.{IsPointer, Place}
use Rattle.shared_handle.proofs.Owned.{points_well}
use Rattle.shared_handle.proofs.looks.place.Goals as goal

pub returns-clause-proper : goal.returns-clause-proper
returns-clause-proper g c = λ has.
    let h = c.args.handle.now in
    subst (λ (p : Option Place). IsPointer p) (sym c.place.ensures) (points_well c.args._desk.now h.block h.place c.assert_invariant.ensures h.proper has)
