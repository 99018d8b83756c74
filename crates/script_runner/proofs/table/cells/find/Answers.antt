use Rattle.std.proofs.Common.{sym, subst}
use Rattle.script_runner.proofs.TablePrelude.{IsCellAtSite, IsInReach, IsOpenAt, Kind, Shape}
use Rattle.control_word.specs.Layout.{IsWithinLimits}
use Rattle.script_runner.proofs.CellSites.{is_open}
use Rattle.script_runner.proofs.table.cells.find.Goals as goal

pub site_of-requires : goal.site_of-requires
site_of-requires g c =
    record { reach = subst (λ (z : Shape). IsInReach z c.args.slots.now.items c.args.cell) c.requires.domain.shape c.requires.reach }

pub returns-in-Ok-clause-found : goal.returns-in-Ok-clause-found
returns-in-Ok-clause-found g c = (
  subst (λ (z : Shape). IsCellAtSite z c.args.slots.now.items c.args.cell c.in-Ok.site) (sym c.requires.domain.shape) c.in-Ok.ensures.found,
  c.kind.ensures,
)

pub returns-in-Ok-clause-open : goal.returns-in-Ok-clause-open
returns-in-Ok-clause-open g c =
    subst (λ (k : Kind). IsOpenAt c.args.desk.now c.in-Ok.site k) (sym c.kind.ensures)
    (is_open c.args.desk.now c.args.slots.now.items c.args.cell c.in-Ok.site
    (subst IsWithinLimits (sym c.requires.domain.shape) c.assert_invariant.ensures) c.requires.fits c.requires.reach
    (subst (λ (z : Shape). IsCellAtSite z c.args.slots.now.items c.args.cell c.in-Ok.site) (sym c.requires.domain.shape) c.in-Ok.ensures.found))
