use Rattle.std.proofs.Common.{ap}
use Rattle.pointers.proofs.Prelude.{Owner}
use Rattle.pointers.specs.Beside.{seen_by}
use Rattle.pointers.proofs.Finding.{told_still}
use Rattle.pointers.proofs.cells.cached_value.CachedValue.holds_still.Goals as goal

pub returns-in-Some-clause-found : goal.returns-in-Some-clause-found
returns-in-Some-clause-found g c =
    told_still g.D.Domain.opened _ _ Owner c.in-Some.kept.owner _ c.still_holds.result (ap (seen_by (λ k. k.owner)) c.in-Some.is) c.still_holds.ensures.told
