use Rattle.std.proofs.Common.{string_bytes, ap, ◌∙◌}
use Rattle.script_runner.proofs.Prelude.{Said, Vec}
use Rattle.script_runner.proofs.Threads.{threads_then}
use Rattle.script_runner.proofs.reports.lines.put_threads.Goals as goal

pub loop-at-preserved : goal.loop-at-preserved
loop-at-preserved c =
    threads_then c.args.lines.now c.loop-at.at c.index-lines-at.result c.as_slice.result.now (string_bytes c.args.text.now)
    (string_bytes c.loop-at.text) (string_bytes c.put_lines.new.text) c.loop-at-test.true
    (c.as_slice.ensures.value ∙ ap (λ (v : Vec Said). v.items) c.index-lines-at.is) c.loop-at.invariant c.in_ok-put_lines.ensures
