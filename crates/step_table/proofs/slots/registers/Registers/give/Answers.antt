use Rattle.std.proofs.Common.{set, sym, ap, ◌∙◌, subst}
use Rattle.step_table.proofs.Prelude.{Full, GhostState, Handle, HoldsBag, Slots, this_as}
use Rattle.step_table.proofs.holding.Inside.{holds_give, inside_held}
use Rattle.step_table.proofs.holding.Owning.{has_room}
use Rattle.step_table.proofs.slots.registers.Registers.give.Goals as goal

pub give-requires-clause-held : goal.give-requires-clause-held
give-requires-clause-held c = inside_held c.args.desk c.args.self.now.slots.items c.args.table.now c.args.from c.args.pointer c.requires.holds c.requires.from

pub give-requires-clause-room : goal.give-requires-clause-room
give-requires-clause-room c =
    has_room c.args.desk c.args.self.now.slots.items c.args.table.now c.args.to c.assert_invariant.ensures c.requires.seat c.requires.holds c.args.self.now.few
    c.requires.inside c.requires.empty

pub returns-clause-holds : goal.returns-clause-holds
returns-clause-holds c =
    let slots = c.args.self.now.slots.items in
    subst (λ (s : Slots). HoldsBag c.args.desk s c.give.new.self)
    (sym (c.fill.ensures ∙ ap (λ (x : Handle). set slots c.args.to (Full x)) c.this_of.ensures))
    (subst (λ (v : GhostState). HoldsBag c.args.desk (set slots c.args.to (Full (this_as c.args.kind c.args.pointer))) v) (sym c.give.ensures)
    (holds_give c.args.desk slots c.args.table.now c.args.to c.args.kind c.args.pointer c.assert_invariant.ensures c.requires.holds
    (inside_held c.args.desk slots c.args.table.now c.args.from c.args.pointer c.requires.holds c.requires.from) c.requires.inside c.requires.empty))
