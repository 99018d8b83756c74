use Rattle.std.proofs.Common.{sym, refl, subst}
use Rattle.step_table.proofs.Prelude.{GhostState, HoldsBag}
use Rattle.step_table.proofs.holding.Inside.{inside_owned}
use Rattle.step_table.proofs.holding.Owning.{holds_look}
use Rattle.step_table.proofs.slots.registers.Registers.read.Goals as goal

pub read-requires-clause-held : goal.read-requires-clause-held
read-requires-clause-held c =
    inside_owned c.args.desk c.args.self.now.slots.items c.args.table.now c.args.from c.args.pointer c.requires.holds c.requires.from
    c.in-Some.place c.in-Some.is

pub returns-clause-holds : goal.returns-clause-holds
returns-clause-holds c =
    subst (λ (v : GhostState). HoldsBag c.args.desk c.args.self.now.slots.items v) (sym c.read.ensures.after)
    (holds_look c.args.desk c.args.self.now.slots.items c.args.table.now _ refl refl c.requires.holds)
