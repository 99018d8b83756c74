use Rattle.std.proofs.Common.{◌≡◌, subst}
use Rattle.pointers.specs.Claims.{known_by}
use Rattle.pointers.specs.Sites.{Site, owner_of}
use Rattle.pointers.proofs.cells.up.Up.owner.Goals as goal

pub returns : goal.returns
returns g c = subst (λ (s : Site g.row.D-Value.Denot). known_by c.owner_at.result ≡ owner_of s) c.self.view_is c.owner_at.ensures
