use Rattle.std.proofs.Common.{ℕ, ap}
use Rattle.script_runner.proofs.Prelude.{kind_at, TableNow}
use Rattle.script_runner.proofs.CellActs as law
use Rattle.script_runner.proofs.CellKinds.{kept_aside, kept_kind}
use Rattle.script_runner.proofs.Reaching.{in_reach}
use Rattle.script_runner.proofs.Refusals.{handle_of_kind, kinds_kept}
use Rattle.script_runner.proofs.acts.cells.swap_taken.Goals as goal

pub set_aside-requires-clause-full : goal.set_aside-requires-clause-full
set_aside-requires-clause-full g c = (
  kind_at c.args.cell,
  kept_kind c.args.table.now c.exchange.new.self c.args.hand (kind_at c.args.cell)
      (law.exchange_kinds c.args.hand c.args.table.now c.args.cell c.requires.named c.requires.reached c.requires.seated
      c.args.hand c.requires.full c.exchange.new.self c.in-Ok.ensures.exchanged) c.requires.full,
)

pub set_aside-requires-in-Err-clause-full : goal.set_aside-requires-in-Err-clause-full
set_aside-requires-in-Err-clause-full g c = (
  kind_at c.args.cell,
  kept_kind c.args.table.now c.exchange.new.self c.args.hand (kind_at c.args.cell)
      (kinds_kept c.args.table.now c.exchange.new.self (ap (λ (t : TableNow ℕ). t.slots) c.in-Err.ensures.refused.1)) c.requires.full,
)

pub returns-in-Ok-clause-acts : goal.returns-in-Ok-clause-acts
returns-in-Ok-clause-acts g c =
    law.swap_swapped c.args.hand c.args.table.now c.args.cell c.requires.named c.requires.reached c.requires.seated
    c.requires.hand c.requires.full c.requires.other c.exchange.new.self c.set_aside.new.table c.in-Ok.ensures.exchanged c.assert_invariant.ensures.fits
    c.assert_invariant.ensures.stands c.set_aside.ensures.moved

pub returns-in-Ok-clause-kinds : goal.returns-in-Ok-clause-kinds
returns-in-Ok-clause-kinds g c =
    kept_aside c.args.table.now c.exchange.new.self c.set_aside.new.table c.args.hand
    (law.exchange_kinds c.args.hand c.args.table.now c.args.cell c.requires.named c.requires.reached c.requires.seated
    c.args.hand c.requires.full c.exchange.new.self c.in-Ok.ensures.exchanged) c.set_aside.ensures.kinds

pub returns-in-Err-clause-acts : goal.returns-in-Err-clause-acts
returns-in-Err-clause-acts g c =
    law.swap_missed c.args.hand c.args.table.now c.args.cell c.requires.named c.requires.reached c.requires.seated
    c.requires.hand c.requires.full c.requires.other c.in-Err.field-0 c.exchange.new.self c.set_aside-in-Err.new.table c.in-Err.ensures.refused
    c.set_aside-in-Err.ensures.moved

pub returns-in-Err-clause-kinds : goal.returns-in-Err-clause-kinds
returns-in-Err-clause-kinds g c =
    kept_aside c.args.table.now c.exchange.new.self c.set_aside-in-Err.new.table c.args.hand
    (kinds_kept c.args.table.now c.exchange.new.self (ap (λ (t : TableNow ℕ). t.slots) c.in-Err.ensures.refused.1)) c.set_aside-in-Err.ensures.kinds

pub exchange-requires-clause-reach : goal.exchange-requires-clause-reach
exchange-requires-clause-reach g c = in_reach c.args.table.now c.args.cell c.requires.reached

pub exchange-requires-clause-at : goal.exchange-requires-clause-at
exchange-requires-clause-at g c = handle_of_kind c.args.table.now.slots c.args.hand (kind_at c.args.cell) c.requires.full
