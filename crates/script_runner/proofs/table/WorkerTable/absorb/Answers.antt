use Rattle.std.proofs.Common.{◌+◌, refl, ◌∙◌, subst}
use Rattle.script_runner.proofs.TablePrelude.{Absorbs, allowance_of, TableNow}
use Rattle.script_runner.proofs.Wholes.{absorb_whole, seen}
use Rattle.script_runner.proofs.table.WorkerTable.absorb.Goals as goal

pub invariant_of-self : goal.invariant_of-self
invariant_of-self g c =
    let j = c.join.ensures in let none = c.into_desk-desk.ensures.none in
    absorb_whole _ c.self.inside.domain.now c.self.inside.desk c.into_desk-desk.result c.join.new.self c.self.inside.slots.items c.self.inside.pile
    c.self.invariant none.0 none.1 j.event j.bag j.held j.endings.0 j.count

pub returns : goal.returns
returns g c =
    subst (λ (t : TableNow g.row.V.Denot). Absorbs t c.args.other (seen c.join.new.self c.self.inside.slots.items c.self.inside.pile)) c.self.view_is
    record {
      bare = c.into_desk-desk.result;
      winds_up = c.into_desk-desk.ensures.wound;
      desks = c.join.ensures.event;
      allowance = c.join.ensures.allowance ∙ λ i. allowance_of c.self.inside.desk + c.into_desk-desk.ensures.wound.allowance i;
      rest = (refl, refl);
    }
