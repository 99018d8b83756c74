use Rattle.pointers.proofs.Prelude.{Weak}
use Rattle.pointers.specs.Places.{cell_at}
use Rattle.pointers.specs.Sites.{owner_of}
use Rattle.pointers.proofs.Finding.{found_as}
use Rattle.pointers.proofs.cells.cached_weak.CachedWeak.get.Goals as goal

pub returns-clause-found : goal.returns-clause-found
returns-clause-found g c =
    let o = g.D.Domain.opened in let place = c.args.self.now.place in
    found_as o (owner_of place) (cell_at o Weak place) Weak _ _ c.found.ensures c.in_ok-look.ensures.found
