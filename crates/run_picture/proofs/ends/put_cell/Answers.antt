use Rattle.std.specs.Prelude.{string_bytes}
use Rattle.run_picture.specs.Shown.{cell_words}
use Rattle.run_picture.proofs.Showing.{shows_before}
use Rattle.run_picture.proofs.ends.put_cell.Goals as goal

pub returns : goal.returns
returns c =
    shows_before (string_bytes c.args.text.now) (string_bytes c.put_cell_title.new.text)
    (string_bytes c.put_line.new.text) (cell_words c.args.shared c.args.cell)
    c.in_ok-put_cell_title.ensures c.in_ok-put_line.ensures
