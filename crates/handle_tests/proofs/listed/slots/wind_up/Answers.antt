use Rattle.std.proofs.Common.{subst, sym, Option, ◌∷◌}
use Rattle.control_block.specs.declared.handles.Held.{Held}
use Rattle.handle_tests.specs.Hands.{HoldsBeside, HoldsSlots}
use Rattle.handle_tests.proofs.Hands.{last_off}
use Rattle.handle_tests.proofs.listed.slots.wind_up.Goals as goal

pub let_go-requires-clause-holds : goal.let_go-requires-clause-holds
let_go-requires-clause-holds c =
    let d = c.loop-slot.desk in let rest = c.pop.new.self.items in
    let all = last_off d c.loop-slot.slots.items rest c.in-Some.slot c.loop-slot.invariant.1 c.in-Some.ensures.items in
    subst (HoldsBeside d c.in-Some-slot.handle) (sym c.as_slice.ensures.value)
    (subst (λ (x : Option Held). HoldsSlots d (x ∷ rest)) c.in-Some-slot.is all)

pub loop-slot-preserved : goal.loop-slot-preserved
loop-slot-preserved c =
    let d = c.loop-slot.desk in let rest = c.pop.new.self.items in
    let all = last_off d c.loop-slot.slots.items rest c.in-Some.slot c.loop-slot.invariant.1 c.in-Some.ensures.items in
    (c.loop-slot.invariant.0, subst (λ (x : Option Held). HoldsSlots d (x ∷ rest)) c.in_default-slot.is all)
