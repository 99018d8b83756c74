use Rattle.std.proofs.Common.{subst, ◌<◌, length, sym}
use Rattle.script_runner.proofs.TablePrelude.{Copies, TableNow, IsBelow, IsHandleAt}
use Rattle.script_runner.proofs.Filling.{fits_at, fits_more}
use Rattle.script_runner.proofs.Wholes.{kept, seen}
use Rattle.script_runner.proofs.table.WorkerTable.copy.Goals as goal

pub copy_of-copy-requires-clause-held : goal.copy_of-copy-requires-clause-held
copy_of-copy-requires-clause-held g c =
    let s = c.self.inside in fits_at s.desk s.slots.items c.args.from c.handle_at.result.now c.self.invariant.fits c.handle_at.ensures

pub assign-requires-clause-bears : goal.assign-requires-clause-bears
assign-requires-clause-bears g c =
    let s = c.self.inside in kept s.domain.now s.desk c.copy_of-copy.new.desk s.pile c.self.invariant.bears c.copy_of-copy.ensures.keeps

pub assign-requires-clause-fits : goal.assign-requires-clause-fits
assign-requires-clause-fits g c =
    let s = c.self.inside in let m = c.copy_of-copy in
    fits_more s.desk m.new.desk s.slots.items m.result c.self.invariant.fits m.ensures.bag m.ensures.held

pub returns : goal.returns
returns g c =
    let m = c.copy_of-copy in let a = c.assign.new in
    subst (λ (t : TableNow g.row.V.Denot). Copies t c.args.from c.args.to (seen a.desk a.slots.items a.pile)) c.self.view_is
    record {
      of = c.handle_at.result.now;
      at = c.handle_at.ensures;
      copy = record {
        handle = m.result;
        between = m.new.desk;
        room = subst (λ (t : TableNow g.row.V.Denot). IsBelow t.desk) (sym c.self.view_is) c.requires.below;
        comes = m.ensures.copy;
        assigns = c.assign.ensures.assigns;
      };
    }

pub handle_at-requires : goal.handle_at-requires
handle_at-requires g c = subst (λ (t : TableNow g.row.V.Denot). IsHandleAt t.slots c.args.from) (sym c.self.view_is) c.requires.from

pub copy_of-copy-requires-clause-below : goal.copy_of-copy-requires-clause-below
copy_of-copy-requires-clause-below g c = subst (λ (t : TableNow g.row.V.Denot). IsBelow t.desk) (sym c.self.view_is) c.requires.below

pub assign-requires-clause-there : goal.assign-requires-clause-there
assign-requires-clause-there g c = subst (λ (t : TableNow g.row.V.Denot). c.args.to < length t.slots) (sym c.self.view_is) c.requires.to
