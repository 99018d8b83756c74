use Rattle.std.proofs.Common.{arith}
use Rattle.std.specs.Prelude.{string_bytes}
use Rattle.run_picture.specs.Shown.{cell_words}
use Rattle.run_picture.proofs.Showing.{shows_item, shows_none}
use Rattle.run_picture.proofs.ends.put_cells.Goals as goal

pub loop-index-init : goal.loop-index-init
loop-index-init c = shows_none (string_bytes c.args.text.now)

pub loop-index-preserved : goal.loop-index-preserved
loop-index-preserved c =
    shows_item (cell_words c.args.shared) c.args.lanes.now.cells.items c.loop-index.index
    c.index.result.now (string_bytes c.args.text.now) (string_bytes c.loop-index.text)
    (string_bytes c.put_cell.new.text) (omega arith) c.index.ensures c.loop-index.invariant
    c.in_ok-put_cell.ensures
