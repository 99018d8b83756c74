use Rattle.step_table.proofs.holding.Inside.{inside_held}
use Rattle.step_table.proofs.slots.registers.Registers.is_enabled.Goals as goal

pub is_enabled-requires : goal.is_enabled-requires
is_enabled-requires c = inside_held c.args.desk c.args.self.now.slots.items c.args.table.now c.args.from c.args.pointer c.requires.holds c.requires.from
