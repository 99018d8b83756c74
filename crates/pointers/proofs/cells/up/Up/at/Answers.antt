use Rattle.std.proofs.Common.{◌≡◌, IfErr, IfOk, subst}
use Rattle.control_word.specs.declared.model.handle.Kind.TheVariants.{Weak}
use Rattle.pointers.specs.Cells.{IsWeakSite}
use Rattle.pointers.specs.Places.{WhyNoCell, weak_site_of}
use Rattle.pointers.specs.Sites.{Site, owner_of}
use Rattle.pointers.proofs.cells.up.Up.at.Goals as goal

pub returns-clause-cell : goal.returns-clause-cell
returns-clause-cell g c =
    subst (λ (s : Site g.row.D-Value.Denot). IfOk c.cell_at.result (λ a. IsWeakSite g.D.Domain.opened a.site (owner_of s))) c.self.view_is
    c.cell_at.ensures.cell

pub returns-clause-there : goal.returns-clause-there
returns-clause-there g c =
    subst (λ (s : Site g.row.D-Value.Denot). IfOk c.cell_at.result (λ a. a.site ≡ weak_site_of s)) c.self.view_is c.cell_at.ensures.there

pub returns-clause-refused : goal.returns-clause-refused
returns-clause-refused g c =
    subst (λ (s : Site g.row.D-Value.Denot). IfErr c.cell_at.result (WhyNoCell g.D.Domain.opened Weak s c.args.call)) c.self.view_is
    c.cell_at.ensures.refused
