use Rattle.std.proofs.Common.{set, sym, refl, subst}
use Rattle.step_table.proofs.Prelude.{Full, GhostState, HoldsBag}
use Rattle.step_table.specs.AtomicSteps.{as_weak}
use Rattle.step_table.proofs.holding.Owning.{has_room, holds_more, slot_formed, slot_held}
use Rattle.step_table.proofs.slots.registers.Registers.downgrade.Goals as goal

pub weak_share-requires-clause-held : goal.weak_share-requires-clause-held
weak_share-requires-clause-held c =
    slot_held c.args.desk c.args.self.now.slots.items c.args.table.now c.args.from c.args.pointer c.requires.holds c.requires.from

pub weak_share-requires-clause-room : goal.weak_share-requires-clause-room
weak_share-requires-clause-room c =
    has_room c.args.desk c.args.self.now.slots.items c.args.table.now c.args.to c.assert_invariant.ensures c.requires.seat c.requires.holds c.args.self.now.few
    c.requires.inside c.requires.empty

pub returns-clause-holds : goal.returns-clause-holds
returns-clause-holds c =
    subst (λ (v : GhostState). HoldsBag c.args.desk (set c.args.self.now.slots.items c.args.to (Full (as_weak c.args.pointer))) v) (sym c.weak_share.ensures)
    (holds_more c.args.desk c.args.self.now.slots.items c.args.table.now _ c.args.to (as_weak c.args.pointer) c.requires.holds refl refl
    (slot_formed c.args.desk c.args.self.now.slots.items c.args.table.now c.args.from c.args.pointer c.requires.holds c.requires.from)
    c.requires.inside c.requires.empty)
