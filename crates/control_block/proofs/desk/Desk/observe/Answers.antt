use Rattle.std.proofs.Common.{[], ◌∷◌, ap, ◌∙◌, subst}
use Rattle.control_block.proofs.Prelude.{DeskNow, Shape, ShowsOneHistory}
use Rattle.control_block.proofs.Observations.{shows_one}
use Rattle.control_block.proofs.desk.Desk.observe.Goals as goal

pub returns-clause-history : goal.returns-clause-history
returns-clause-history g c =
    let shape = ap (λ z. z.shape) c.self.view_is ∙ c.requires.domain.shape in
    subst (λ (y : Shape × DeskNow g.row.V.Denot). ShowsOneHistory y.0 (y.1 ∷ []) c.args.word c.observe.result) (λ i. (shape i, c.self.view_is i))
    (shows_one c.self.inside c.self.invariant c.args.word c.observe.result c.observe.ensures.told)
