use Rattle.std.proofs.Common.{List, ◌∷◌, Some, sym, subst, ◌<◌, length, ap, ◌∙◌, None, length-set}
use Rattle.script_runner.proofs.TablePrelude.{Assigns, FitsSlots, on_pile, Slot, TableNow, IsHandleAt}
use Rattle.script_runner.specs.SlotCalls.{MovesSlot}
use Rattle.script_runner.proofs.Filling.{fits_out}
use Rattle.script_runner.proofs.Wholes.{seen}
use Rattle.script_runner.proofs.table.WorkerTable.move_to.Goals as goal

pub assign-requires-clause-fits : goal.assign-requires-clause-fits
assign-requires-clause-fits g c =
    let s = c.self.inside in let h = c.take_handle-handle in
    subst (λ (l : List Slot). FitsSlots s.desk (Some h.result ∷ l)) (sym h.ensures.1)
    (fits_out s.desk s.slots.items c.args.from h.result c.self.invariant.fits h.ensures.0)

pub returns : goal.returns
returns g c =
    let s = c.self.inside in let h = c.take_handle-handle in let a = c.assign.new in
    subst (λ (t : TableNow g.row.V.Denot). MovesSlot t c.args.from c.args.to (seen a.desk a.slots.items a.pile)) c.self.view_is
    record {
      of = h.result;
      at = h.ensures.0;
      assigns = subst (λ (l : List Slot). Assigns s.desk l (on_pile s.pile) c.args.to h.result a.desk a.slots.items (on_pile a.pile)) h.ensures.1
          c.assign.ensures.assigns;
    }

pub take_handle-handle-requires : goal.take_handle-handle-requires
take_handle-handle-requires g c = subst (λ (t : TableNow g.row.V.Denot). IsHandleAt t.slots c.args.from) (sym c.self.view_is) c.requires.from

pub assign-requires-clause-there : goal.assign-requires-clause-there
assign-requires-clause-there g c =
    let h = c.take_handle-handle in let ss = c.self.inside.slots.items in
    let lt : c.args.to < length ss = subst (λ (t : TableNow g.row.V.Denot). c.args.to < length t.slots) (sym c.self.view_is) c.requires.to in
    subst (λ n. c.args.to < n) (sym (ap length h.ensures.1 ∙ length-set ss c.args.from None)) lt
