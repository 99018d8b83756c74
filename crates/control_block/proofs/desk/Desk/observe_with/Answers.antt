use Rattle.std.proofs.Common.{[], ◌∷◌, ap, ◌∙◌, subst}
use Rattle.control_block.proofs.Prelude.{DeskNow, Shape, ShowsOneHistory}
use Rattle.control_block.proofs.Observations.{shows_both}
use Rattle.control_block.proofs.desk.Desk.observe_with.Goals as goal

pub returns-clause-history : goal.returns-clause-history
returns-clause-history g c =
    let shape = ap (λ z. z.shape) c.self.view_is ∙ c.requires.domain.0.shape in let n = c.observe_both-found.result.0 in
    subst (λ (y : Shape × DeskNow g.row.V.Denot × DeskNow g.row.V.Denot). ShowsOneHistory y.0 (y.1 ∷ y.2 ∷ []) c.args.word n)
    (λ i. (shape i, c.self.view_is i, c.other.view_is i))
    (shows_both c.self.inside c.other.inside c.self.invariant c.other.invariant c.args.word n c.observe_both-found.ensures.told)
