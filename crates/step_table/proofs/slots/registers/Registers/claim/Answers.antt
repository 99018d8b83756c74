use Rattle.std.proofs.Common.{ℕ, set, Option, sym, subst}
use Rattle.step_table.proofs.Prelude.{Full, GhostState, Has, HoldsBag, model_state, origin, Owner}
use Rattle.step_table.proofs.Prelude.{Place, stored}
use Rattle.step_table.proofs.holding.Owning.{has_room, holds_claim}
use Rattle.step_table.proofs.tables.Places.{making_place, making_stored, named}
use Rattle.step_table.proofs.slots.registers.Registers.claim.Goals as goal

pub claim-requires-clause-room : goal.claim-requires-clause-room
claim-requires-clause-room c =
    has_room c.args.desk c.args.self.now.slots.items c.args.table.now c.args.to c.assert_invariant.ensures c.requires.seat c.requires.holds c.args.self.now.few
    c.requires.inside c.requires.empty

pub returns-clause-holds : goal.returns-clause-holds
returns-clause-holds c =
    let k = c.assert_invariant.ensures in
    let m = c.requires.making in
    let slots = c.args.self.now.slots.items in
    let b = c.args.block in
    subst (λ (p : Option Place). HoldsBag c.args.desk (set slots c.args.to (Full (record { kind = Owner; block = b; place = p }))) c.claim.new.self)
    (sym c.origin-place.ensures)
    (subst (λ (v : GhostState). HoldsBag c.args.desk (set slots c.args.to (Full (record { kind = Owner; block = b; place = origin b.0 c.args.form.null }))) v)
    (sym c.claim.ensures)
    (holds_claim c.args.desk slots c.args.table.now c.args.to b c.args.form k c.requires.holds
    (subst (λ (n : ℕ). Has (stored n b.0) (model_state c.args.table.now).stores) (named c.args.table.now c.args.desk k c.requires.seat)
    (making_stored c.args.table.now c.args.desk b m.words k c.requires.seat m.making))
    (making_place c.args.table.now c.args.desk b m.words k c.requires.seat m.making) k.proper.blocks c.requires.inside c.requires.empty))
