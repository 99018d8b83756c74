use Rattle.std.proofs.Common.{subst, inr}
use Rattle.pointers.proofs.Handles.{errs_map}
use Rattle.pointers.specs.Cells.{LoadedAt}
use Rattle.pointers.proofs.cells.up.Up.lock.Goals as goal

pub returns-in-Some-clause-refused : goal.returns-in-Some-clause-refused
returns-in-Some-clause-refused g c =
    errs_map _ _ c.lock.result (λ why no. inr (_, subst (LoadedAt _ _ _ _) c.in-Some.is c.in_ok-came.ensures.loaded, no)) c.lock.ensures.fault
