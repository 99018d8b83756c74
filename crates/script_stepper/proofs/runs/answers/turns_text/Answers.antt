use Rattle.std.proofs.Common.{string_bytes, sym, ◌∙◌}
use Rattle.script_stepper.proofs.Overs.{at_end}
use Rattle.script_stepper.proofs.StepLemmas.{same_blocks, shown_text}
use Rattle.script_stepper.proofs.runs.answers.turns_text.Goals as goal

pub put_closing-requires-clause-end : goal.put_closing-requires-clause-end
put_closing-requires-clause-end c = at_end c.run_turns.new.world c.in_ok-run_turns.ensures.run.run.rests c.in_ok-run_turns.ensures.over

pub put_closing-requires-clause-all : goal.put_closing-requires-clause-all
put_closing-requires-clause-all c =
    c.requires.blocks
    ∙ sym
    (same_blocks _ c.args.world.now c.run_turns.new.world (string_bytes c.new-text.result)
    (string_bytes c.run_turns.new.text) c.in_ok-run_turns.ensures.run.run)

pub returns : goal.returns
returns c =
    shown_text c.args.turns.now c.args.world.now c.run_turns.new.world (string_bytes c.new-text.result) (string_bytes c.run_turns.new.text)
    (string_bytes c.put_closing.new.text) c.new-text.ensures.bytes c.in_ok-run_turns.ensures.run c.in_ok-run_turns.ensures.over
    c.in_ok-put_closing.ensures
