use Rattle.std.proofs.Common.{string_bytes, sym, ◌∙◌}
use Rattle.owner_text.proofs.Prelude.{draft_of}
use Rattle.owner_text.proofs.TextLemmas.{knot_then, none_put}
use Rattle.owner_text.proofs.knots.put_lines.Goals as goal

pub returns-then-not-is_least : goal.returns-then-not-is_least
returns-then-not-is_least c =
    none_put _ _ (string_bytes c.args.text.now) (sym c.is_least.ensures ∙ c.if-not-is_least.true)

pub returns : goal.returns
returns c =
    knot_then (draft_of c.args.draft.now) c.args.found.now c.args.least c.is_least.result
    c.as_slice.result.now (string_bytes c.args.text.now)
    (string_bytes c.put_tied.new.text) c.is_least.ensures c.if-not-is_least.false
    (c.as_slice.ensures.value ∙ c.in_ok-ties.ensures)
    (c.requires.members c.args.least) c.requires.sources c.in_ok-put_tied.ensures
