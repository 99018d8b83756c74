use Rattle.std.proofs.Common.{sym, subst}
use Rattle.clap.specs.Words.{Text, found_of, rows_of}
use Rattle.sptr.specs.CommandLine.{IsAskedBy}
use Rattle.sptr.proofs.command.asked_by_name.Goals as goal

pub returns-in-run : goal.returns-in-run
returns-in-run c = c.in-run.is

pub returns-in-orders : goal.returns-in-orders
returns-in-orders c =
    subst (λ (name : Text). IsAskedBy name (rows_of (found_of c.args.given.now)) c.orders_asked.result)
    (sym c.in-orders.is) c.orders_asked.ensures
