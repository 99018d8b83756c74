use Rattle.std.proofs.Common.{string_bytes, codes}
use Rattle.owner_text.proofs.Prelude.{tie_text}
use Rattle.owner_text.proofs.LineLemmas.{line_on}
use Rattle.owner_text.proofs.knots.put_ties.Goals as goal

pub loop-tie-preserved : goal.loop-tie-preserved
loop-tie-preserved c =
    line_on (tie_text (codes "tie") c.args.labels.now) c.args.ties.now c.loop-tie.tie-index _
    (string_bytes c.args.text.now)
    (string_bytes c.loop-tie.text) (string_bytes c.put_tie.new.text) c.loop-tie-test.true
    c.loop-tie.invariant c.in_ok-put_tie.ensures
