use Rattle.pointers.proofs.Prelude.{Owner}
use Rattle.pointers.specs.Places.{cell_at}
use Rattle.pointers.specs.Sites.{owner_of}
use Rattle.pointers.proofs.Finding.{found_as}
use Rattle.pointers.proofs.cells.cached.Cached.get.Goals as goal

pub returns-clause-found : goal.returns-clause-found
returns-clause-found g c =
    let o = g.D.Domain.opened in let place = c.args.self.now.place in
    found_as o (owner_of place) (cell_at o Owner place) Owner _ _ c.found.ensures c.in_ok-look.ensures.found
