use Rattle.std.proofs.Common.{set, sym, ap, subst}
use Rattle.step_table.proofs.Prelude.{get_or_read, HoldsBag, plain, Slot}
use Rattle.step_table.proofs.holding.Owning.{holds_move}
use Rattle.step_table.proofs.slots.registers.Registers.pass_on.Goals as goal

pub returns-clause-slots : goal.returns-clause-slots
returns-clause-slots c =
    let l = c.args.self.now.slots.items in
    let e = get_or_read l c.args.from c.index.result.now c.requires.from c.index.ensures plain in
    ap (λ (x : Slot). set (set l c.args.to x) c.args.from plain) e

pub returns-clause-holds : goal.returns-clause-holds
returns-clause-holds c = λ d v holds.
    let l = c.args.self.now.slots.items in
    let e = get_or_read l c.args.from c.index.result.now c.requires.from c.index.ensures plain in
    subst (λ (x : Slot). HoldsBag d (set (set l c.args.to x) c.args.from plain) v) (sym e)
    (holds_move d l v c.args.from c.args.to holds c.requires.from c.requires.inside c.requires.apart c.requires.empty)
