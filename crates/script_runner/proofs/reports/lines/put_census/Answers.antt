use Rattle.std.proofs.Common.{ℕ, ◌++◌, ap, string_bytes, ◌∙◌}
use Rattle.script_runner.proofs.Prelude.{closed_block_lines, ended}
use Rattle.script_stepper.proofs.ClosingLemmas.{numbered_then}
use Rattle.script_runner.proofs.reports.lines.put_census.Goals as goal

pub loop-before-preserved : goal.loop-before-preserved
loop-before-preserved c =
    numbered_then (closed_block_lines c.args.census.now) c.loop-before.before (string_bytes c.args.text.now)
    (string_bytes c.loop-before.text) (string_bytes c.put_counts.new.text) c.loop-before.invariant
    (c.in_ok-put_counts.ensures ∙ ap (λ (n : ℕ). string_bytes c.loop-before.text ++ ended (closed_block_lines c.args.census.now n)) c.numbered.ensures)
