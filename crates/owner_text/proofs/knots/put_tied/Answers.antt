use Rattle.std.proofs.Common.{string_bytes, ◌∙◌, rules}
use Rattle.owner_text.proofs.Prelude.{draft_of}
use Rattle.owner_text.proofs.TextLemmas.{tied_is}
use Rattle.owner_text.proofs.knots.put_tied.Goals as goal

pub returns : goal.returns
returns c =
    tied_is (draft_of c.args.draft.now) c.args.found.now c.args.least c.members_of.result.now
    c.args.ties.now c.weakenings_of.result.now
    (string_bytes c.args.text.now) (string_bytes c.put_knot.new.text)
    (string_bytes c.put_ties.new.text) (string_bytes c.put_cuts.new.text)
    (string_bytes c.put_weakenings.new.text)
    (let e = c.is_empty.ensures in let n = c.if-is_empty.false in search rules)
    (c.members_of.ensures ∙ c.requires c.args.least) c.weakenings_of.ensures
    c.in_ok-put_knot.ensures c.in_ok-put_ties.ensures c.in_ok-put_cuts.ensures
    c.in_ok-put_weakenings.ensures
