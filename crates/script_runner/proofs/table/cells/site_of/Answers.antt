use Rattle.std.proofs.Common.{◌≡◌, slice_get, Some, sym, refl, subst}
use Rattle.script_runner.proofs.TablePrelude.{IsCellAtSite, IsInReach, IsOwnerAt, Owner, WhyNoCell}
use Rattle.control_word.specs.declared.site.Site.TheVariants as site
use Rattle.step_threads.specs.declared.programs.call.CellName.{CellName}
use Rattle.script_runner.proofs.table.cells.site_of.Goals as goal

pub owner_at-requires : goal.owner_at-requires
owner_at-requires g c =
    let ss = c.args.slots.now.items in
    let reach = subst (λ (k : CellName). IsInReach c.args.domain.now.shape ss k) c.in-Member.is c.requires.reach in
    subst (IsOwnerAt ss) (sym c.from-in-Member.ensures) reach.0

pub returns-in-Ok-clause-found : goal.returns-in-Ok-clause-found
returns-in-Ok-clause-found g c =
    let ss = c.args.slots.now.items in let h = c.owner_at.result.now in let b = c.in-Ok.block in
    subst (λ (k : CellName). IsCellAtSite c.args.domain.now.shape ss k (site.Member b c.in-Member.member)) (sym c.in-Member.is) (
      b,
      record {
        owner = h;
        at = subst (λ j. slice_get ss j ≡ Some (Some (Owner h))) c.from-in-Member.ensures c.owner_at.ensures;
        into = c.in-Ok.ensures.inside;
      },
      refl,
    )

pub returns-in-Err-clause-refused : goal.returns-in-Err-clause-refused
returns-in-Err-clause-refused g c =
    let ss = c.args.slots.now.items in let h = c.owner_at.result.now in
    subst (λ (k : CellName). WhyNoCell ss k c.in-Err.why) (sym c.in-Member.is)
    (h, subst (λ j. slice_get ss j ≡ Some (Some (Owner h))) c.from-in-Member.ensures c.owner_at.ensures, c.in-Err.ensures.refused)
