use Rattle.std.proofs.Common.{set, sym, subst}
use Rattle.step_table.proofs.Prelude.{Full, GhostState, HoldsBag}
use Rattle.step_table.proofs.holding.Owning.{has_room, holds_share, slot_formed, slot_held}
use Rattle.step_table.proofs.slots.registers.Registers.share.Goals as goal

pub copy_pointer-requires-clause-held : goal.copy_pointer-requires-clause-held
copy_pointer-requires-clause-held c =
    slot_held c.args.desk c.args.self.now.slots.items c.args.table.now c.args.from c.args.pointer c.requires.holds c.requires.from

pub copy_pointer-requires-clause-place : goal.copy_pointer-requires-clause-place
copy_pointer-requires-clause-place c =
    slot_formed c.args.desk c.args.self.now.slots.items c.args.table.now c.args.from c.args.pointer c.requires.holds c.requires.from

pub copy_pointer-requires-clause-room : goal.copy_pointer-requires-clause-room
copy_pointer-requires-clause-room c =
    has_room c.args.desk c.args.self.now.slots.items c.args.table.now c.args.to c.assert_invariant.ensures c.requires.seat c.requires.holds c.args.self.now.few
    c.requires.inside c.requires.empty

pub returns-clause-holds : goal.returns-clause-holds
returns-clause-holds c =
    subst (λ (v : GhostState). HoldsBag c.args.desk (set c.args.self.now.slots.items c.args.to (Full c.args.pointer)) v) (sym c.copy_pointer.ensures)
    (holds_share c.args.desk c.args.self.now.slots.items c.args.table.now c.args.to c.args.pointer c.requires.holds
    (slot_formed c.args.desk c.args.self.now.slots.items c.args.table.now c.args.from c.args.pointer c.requires.holds c.requires.from)
    c.requires.inside c.requires.empty)
