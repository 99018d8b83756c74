use Rattle.std.specs.Prelude.{string_bytes}
use Rattle.run_picture.specs.Shown.{row_words}
use Rattle.run_picture.proofs.Showing.{shows_item, shows_none}
use Rattle.run_picture.proofs.acts.put_rows.Goals as goal

pub loop-row-init : goal.loop-row-init
loop-row-init c = shows_none (string_bytes c.args.text.now)

pub loop-row-preserved : goal.loop-row-preserved
loop-row-preserved c =
    shows_item row_words c.args.rows.now c.loop-row.row-index c.row-item.result
    (string_bytes c.args.text.now) (string_bytes c.loop-row.text)
    (string_bytes c.put_row.new.text) c.loop-row-test.true c.row-item.is c.loop-row.invariant
    c.in_ok-y.ensures
