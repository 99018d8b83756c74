use Rattle.step_table.proofs.holding.Owning.{holds_empty}
use Rattle.step_table.proofs.slots.registers.Registers.set_empty.Goals as goal

pub returns-clause-holds : goal.returns-clause-holds
returns-clause-holds c = λ d v holds.
    holds_empty d c.args.self.now.slots.items v c.args.at c.args.place holds c.requires.inside c.requires.empty c.requires.place
