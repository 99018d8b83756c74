use Rattle.std.specs.Prelude.{string_bytes}
use Rattle.run_picture.specs.Shown.{lane_words}
use Rattle.run_picture.proofs.Showing.{shows_before}
use Rattle.run_picture.proofs.ends.put_block.Goals as goal

pub returns : goal.returns
returns c =
    let t0 = string_bytes c.args.text.now in
    let t1 = string_bytes c.put_title.new.text in
    let t2 = string_bytes c.put_piece.new.text in
    shows_before t0 t1 t2 (lane_words c.args.lane)
    c.in_ok-put_title.ensures c.in_ok-put_piece.ensures
