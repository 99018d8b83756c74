use Rattle.std.proofs.Common.{string_bytes}
use Rattle.owner_text.proofs.Prelude.{weaken_text}
use Rattle.owner_text.proofs.LineLemmas.{line_on}
use Rattle.owner_text.proofs.knots.put_weakenings.Goals as goal

pub loop-pair-preserved : goal.loop-pair-preserved
loop-pair-preserved c =
    line_on (weaken_text c.args.labels.now) c.args.pairs.now c.loop-pair.pair-index _
    (string_bytes c.args.text.now)
    (string_bytes c.loop-pair.text) (string_bytes c.put_weakening.new.text) c.loop-pair-test.true
    c.loop-pair.invariant c.in_ok-put_weakening.ensures
