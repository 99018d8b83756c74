use Rattle.std.proofs.Common.{[]}
use Rattle.std.specs.Prelude.{string_bytes}
use Rattle.run_picture.specs.Shown.{change_words}
use Rattle.run_picture.proofs.Showing.{shows_then}
use Rattle.run_picture.proofs.changes.put_change.Goals as goal

pub returns : goal.returns
returns c =
    shows_then (string_bytes c.args.text.now) (string_bytes c.put_counts.new.text)
    (string_bytes c.put_lane.new.text)
    (change_words c.args.change) [] c.in_ok-put_counts.ensures c.in_ok-put_lane.ensures
