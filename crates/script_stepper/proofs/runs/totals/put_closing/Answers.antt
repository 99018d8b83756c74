use Rattle.std.proofs.Common.{string_bytes, ◌∙◌}
use Rattle.script_stepper.proofs.Prelude.{abstraction}
use Rattle.script_stepper.proofs.ClosingLemmas.{closing_then}
use Rattle.script_stepper.proofs.runs.totals.put_closing.Goals as goal

pub returns : goal.returns
returns c =
    closing_then (abstraction c.args.world.now) c.args.blocks c.from.result c.from-2.result (string_bytes c.args.text.now)
    (string_bytes c.put_census.new.text) (string_bytes c.put_totals.new.text) c.requires.all (c.from.ensures ∙ c.made.ensures)
    (c.from-2.ensures ∙ c.ended.ensures) c.in_ok-put_census.ensures c.in_ok-put_totals.ensures
