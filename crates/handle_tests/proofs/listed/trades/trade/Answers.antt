use Rattle.std.proofs.Common.{subst}
use Rattle.control_block.specs.SlotLists.{handles_in}
use Rattle.control_block.specs.declared.handles.Held.{Held}
use Rattle.control_block.specs.declared.handles.Held.TheVariants as held
use Rattle.handle_tests.proofs.Hands.{all_other}
use Rattle.handle_tests.specs.Hands.{HoldsBeside}
use Rattle.handle_tests.proofs.listed.trades.trade.Goals as goal

pub returns-in-Ok-clause-holds : goal.returns-in-Ok-clause-holds
returns-in-Ok-clause-holds c =
    let e = c.exchange.ensures in
    all_other c.args.desk.now c.exchange.new.desk (held.Owner c.in-Owner.owner) (held.Owner c.exchange.result) (handles_in c.args.slots.now)
    c.assert_invariant.ensures (subst (λ (h : Held). HoldsBeside c.args.desk.now h c.args.slots.now) c.in-Owner.is c.requires.holds) e.bag e.held
