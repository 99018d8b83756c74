use Rattle.std.proofs.Common.{ℕ, sym, ap, subst}
use Rattle.script_runner.proofs.Prelude.{ExchangesSlot, IsKindAt, kind_at, TableNow}
use Rattle.script_runner.proofs.CellActs as law
use Rattle.script_runner.proofs.Reaching.{in_reach}
use Rattle.script_runner.proofs.Refusals.{handle_of_kind, kinds_kept}
use Rattle.script_runner.proofs.acts.cells.exchange.Goals as goal

pub returns-in-Err-clause-acts : goal.returns-in-Err-clause-acts
returns-in-Err-clause-acts g c =
    law.exchange_refused c.args.hand c.args.table.now c.args.cell c.requires.named c.requires.reached c.requires.seated
    c.args.name c.requires.kind c.args.taken c.in-Err.why c.exchange.new.self c.in-Err.ensures.refused

pub returns-in-Err-clause-kinds : goal.returns-in-Err-clause-kinds
returns-in-Err-clause-kinds g c = kinds_kept c.args.table.now c.exchange.new.self (ap (λ (t : TableNow ℕ). t.slots) c.in-Err.ensures.refused.1)

pub returns-in-Ok-clause-acts : goal.returns-in-Ok-clause-acts
returns-in-Ok-clause-acts g c =
    law.exchange_taken c.args.hand c.args.table.now c.args.cell c.requires.named c.requires.reached c.requires.seated
    c.args.name c.requires.kind c.exchange.new.self
    (subst (λ j. ExchangesSlot c.args.table.now j c.args.cell c.exchange.new.self) c.from.ensures c.in-Ok.ensures.exchanged)
    c.assert_invariant.ensures.fits c.assert_invariant.ensures.stands c.args.taken c.requires.name

pub returns-in-Ok-clause-kinds : goal.returns-in-Ok-clause-kinds
returns-in-Ok-clause-kinds g c =
    law.exchange_kinds c.args.hand c.args.table.now c.args.cell c.requires.named c.requires.reached c.requires.seated
    c.args.name c.requires.kind c.exchange.new.self
    (subst (λ j. ExchangesSlot c.args.table.now j c.args.cell c.exchange.new.self) c.from.ensures c.in-Ok.ensures.exchanged)

pub exchange-requires-clause-reach : goal.exchange-requires-clause-reach
exchange-requires-clause-reach g c = in_reach c.args.table.now c.args.cell c.requires.reached

pub exchange-requires-clause-at : goal.exchange-requires-clause-at
exchange-requires-clause-at g c =
    let t = c.args.table.now in let k = kind_at c.args.cell in
    subst (IsKindAt k t.slots) (sym c.from.ensures) (handle_of_kind t.slots c.args.name k c.requires.kind)
