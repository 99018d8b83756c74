use Rattle.std.proofs.Common.{ℕ, ◌++◌, ap, string_bytes, ◌∙◌}
use Rattle.script_stepper.proofs.Prelude.{abstraction, ended, state_in}
use Rattle.script_stepper.specs.Lines.{block_lines}
use Rattle.script_stepper.proofs.ClosingLemmas.{numbered_then}
use Rattle.script_stepper.proofs.runs.totals.put_census.Goals as goal

pub loop-before-preserved : goal.loop-before-preserved
loop-before-preserved c =
    numbered_then (block_lines (state_in (abstraction c.args.world.now))) c.loop-before.before (string_bytes c.args.text.now)
    (string_bytes c.loop-before.text) (string_bytes c.put_counts.new.text) c.loop-before.invariant
    (c.in_ok-put_counts.ensures
    ∙ ap (λ (n : ℕ). string_bytes c.loop-before.text ++ ended (block_lines (state_in (abstraction c.args.world.now)) n))
    (c.numbered.ensures ∙ c.from.ensures))
