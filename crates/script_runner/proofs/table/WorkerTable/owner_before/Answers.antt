use Rattle.std.proofs.Common.{subst, sym}
use Rattle.script_runner.proofs.TablePrelude.{TableNow, IsHandleAt}
use Rattle.script_runner.specs.Pairs.{AreInOrder}
use Rattle.script_runner.proofs.table.WorkerTable.owner_before.Goals as goal

pub returns-clause-told : goal.returns-clause-told
returns-clause-told g c =
    subst (λ (t : TableNow g.row.V.Denot). AreInOrder t c.args.a c.args.b c.are_in_order.result) c.self.view_is
    record {
      one = c.handle_at-one.result.now;
      other = c.handle_at-other.result.now;
      at = (c.handle_at-one.ensures, c.handle_at-other.ensures);
      told = c.are_in_order.ensures.before;
    }

pub handle_at-one-requires : goal.handle_at-one-requires
handle_at-one-requires g c = subst (λ (t : TableNow g.row.V.Denot). IsHandleAt t.slots c.args.a) (sym c.self.view_is) c.requires.0

pub handle_at-other-requires : goal.handle_at-other-requires
handle_at-other-requires g c = subst (λ (t : TableNow g.row.V.Denot). IsHandleAt t.slots c.args.b) (sym c.self.view_is) c.requires.1
