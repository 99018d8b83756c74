use Rattle.std.specs.Prelude.{string_bytes}
use Rattle.script_picture.proofs.RunLines.{lines_told}
use Rattle.script_picture.proofs.lines.lines_of.Goals as goal

pub returns-in-Ok-clause-ok : goal.returns-in-Ok-clause-ok
returns-in-Ok-clause-ok c =
    let rows = c.in_ok-recorded.recorded.rows in
    lines_told c.args.script.now c.args.turns.now c.whole.result rows.acts rows.list.items
    (string_bytes c.in-Ok.lines) c.whole.ensures c.in_ok-recorded.ensures.ok c.in-Ok.ensures
