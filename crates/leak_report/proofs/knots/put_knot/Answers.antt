use Rattle.std.proofs.Common.{string_bytes, sym, ◌∙◌}
use Rattle.leak_report.proofs.KnotLemmas.{knot_then, none_put}
use Rattle.leak_report.proofs.knots.put_knot.Goals as goal

pub returns-then-not-is_least : goal.returns-then-not-is_least
returns-then-not-is_least c =
    none_put _ _ (string_bytes c.args.text.now) (sym c.is_least.ensures ∙ c.if-not-is_least.true)

pub returns : goal.returns
returns c =
    let found = c.args.found.now in
    knot_then c.args.shared found.findings found.held.items found.blocks c.args.least
    c.as_slice.result.now (string_bytes c.args.text.now) (string_bytes c.put_tied.new.text)
    (sym c.is_least.ensures ∙ c.if-not-is_least.false) (c.as_slice.ensures.value ∙ c.in_ok-ties.ensures)
    (c.requires.index.members c.args.least) c.requires.sources c.in_ok-put_tied.ensures
