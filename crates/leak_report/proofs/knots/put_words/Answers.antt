use Rattle.std.proofs.Common.{string_bytes}
use Rattle.leak_report.proofs.Prelude.{owner_cell_text}
use Rattle.leak_report.proofs.KnotLemmas.{words_on}
use Rattle.leak_report.proofs.knots.put_words.Goals as goal

pub loop-tie-preserved : goal.loop-tie-preserved
loop-tie-preserved c =
    words_on (owner_cell_text c.args.shared) c.args.ties.now c.loop-tie.tie-index _ (string_bytes c.args.text.now) (string_bytes c.loop-tie.text)
    (string_bytes c.put_word.new.text) c.loop-tie-test.true c.loop-tie.invariant c.in_ok-put_word.ensures
