use Rattle.std.proofs.Common.{ap, ◌∙◌, subst, sym}
use Rattle.script_runner.proofs.TablePrelude.{DeskNow, TableNow, IsOwnerAt}
use Rattle.script_runner.specs.Pairs.{PointAlike}
use Rattle.script_runner.proofs.Wholes.{same_whole, seen}
use Rattle.script_runner.proofs.table.WorkerTable.same_place.Goals as goal

pub returns-clause-told : goal.returns-clause-told
returns-clause-told g c =
    subst (λ (t : TableNow g.row.V.Denot). PointAlike t c.args.a c.args.b c.same_place.result) c.self.view_is
    record {
      one = c.owner_at-one.result.now;
      other = c.owner_at-other.result.now;
      at = (c.owner_at-one.ensures, c.owner_at-other.ensures);
      told = c.same_place.ensures.equal;
    }

pub invariant_of-self : goal.invariant_of-self
invariant_of-self g c =
    let s = c.self.inside in same_whole _ s.domain.now s.desk c.same_place.new._desk s.slots.items s.pile c.self.invariant c.same_place.ensures.same

pub returns-clause-same : goal.returns-clause-same
returns-clause-same g c =
    ap (λ (d : DeskNow g.row.V.Denot). seen d c.self.inside.slots.items c.self.inside.pile) c.same_place.ensures.same ∙ c.self.view_is

pub owner_at-one-requires : goal.owner_at-one-requires
owner_at-one-requires g c = subst (λ (t : TableNow g.row.V.Denot). IsOwnerAt t.slots c.args.a) (sym c.self.view_is) c.requires.0

pub owner_at-other-requires : goal.owner_at-other-requires
owner_at-other-requires g c = subst (λ (t : TableNow g.row.V.Denot). IsOwnerAt t.slots c.args.b) (sym c.self.view_is) c.requires.1
