use Rattle.std.proofs.Common.{ℕ, List, subst}
use Rattle.std.specs.Prelude.{string_bytes}
use Rattle.std.specs.Io.KnownBytes.{Appends}
use Rattle.sptr.proofs.orders.page.page_text.Goals as goal

pub returns-clause-holds : goal.returns-clause-holds
returns-clause-holds g c = (
  string_bytes c.in_ok-page.page.text,
  c.in_ok-page.ensures.is,
  subst (λ (t : List ℕ). Appends (g.S.Sink.taken c.args.writer.now)
      (g.S.Sink.taken c.write_text.new.writer) t) c.as_bytes.ensures.value
      c.in_ok-write_text.ensures.writes,
)
