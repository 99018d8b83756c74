use Rattle.pointers.proofs.Prelude.{Weak}
use Rattle.pointers.proofs.Finding.{told_still}
use Rattle.pointers.proofs.cells.cached_weak.CachedWeak.holds_still.Goals as goal

pub returns-in-Some-clause-found : goal.returns-in-Some-clause-found
returns-in-Some-clause-found g c =
    told_still g.D.Domain.opened _ _ Weak c.in-Some.found c.args.self.now.found c.still_holds.result c.in-Some.is c.still_holds.ensures.told
