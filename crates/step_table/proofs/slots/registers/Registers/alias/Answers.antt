use Rattle.std.proofs.Common.{set, sym, refl, subst}
use Rattle.step_table.proofs.Prelude.{Full, GhostState, HoldsBag}
use Rattle.step_table.specs.AtomicSteps.{at_place}
use Rattle.step_table.proofs.holding.Owning.{has_room, holds_more}
use Rattle.step_table.proofs.holding.Values.{owner_held}
use Rattle.step_table.proofs.slots.registers.Registers.alias.Goals as goal

pub share-requires-clause-held : goal.share-requires-clause-held
share-requires-clause-held c = owner_held c.args.desk c.args.self.now.slots.items c.args.table.now c.args.from c.args.pointer c.requires.holds c.requires.from

pub share-requires-clause-room : goal.share-requires-clause-room
share-requires-clause-room c =
    has_room c.args.desk c.args.self.now.slots.items c.args.table.now c.args.to c.assert_invariant.ensures c.requires.seat c.requires.holds c.args.self.now.few
    c.requires.inside c.requires.empty

pub returns-clause-holds : goal.returns-clause-holds
returns-clause-holds c =
    subst (λ (v : GhostState). HoldsBag c.args.desk (set c.args.self.now.slots.items c.args.to (Full (at_place c.args.place c.args.pointer))) v)
    (sym c.share.ensures)
    (holds_more c.args.desk c.args.self.now.slots.items c.args.table.now _ c.args.to (at_place c.args.place c.args.pointer) c.requires.holds refl refl
    c.requires.place c.requires.inside c.requires.empty)
