use Rattle.std.proofs.Common.{◌≡◌, subst}
use Rattle.control_word.specs.declared.model.handle.Kind.TheVariants.{Weak}
use Rattle.pointers.specs.Places.{spot_of}
use Rattle.pointers.specs.Sites.{Site}
use Rattle.pointers.proofs.cells.up.Up.spot.Goals as goal

pub returns : goal.returns
returns g c = subst (λ (s : Site g.row.D-Value.Denot). c.spot_at.result ≡ spot_of Weak s) c.self.view_is c.spot_at.ensures
