use Rattle.std.proofs.Common.{None, length, ◌<◌, arith}
use Rattle.std.specs.Prelude.{string_bytes}
use Rattle.run_picture.specs.declared.picture.Change.{Change}
use Rattle.run_picture.specs.Shown.{change_words}
use Rattle.run_picture.proofs.Showing.{shows_more, shows_none}
use Rattle.run_picture.proofs.changes.put_changes.Goals as goal

none : Change
none = record { block = 0; counts = None }

pub loop-change-init : goal.loop-change-init
loop-change-init c = shows_none (string_bytes c.args.text.now)

pub loop-change-preserved : goal.loop-change-preserved
unfolding none
loop-change-preserved c =
    let here : c.loop-change.change-index < length c.args.changes.now = omega arith in
    shows_more change_words c.args.changes.now c.loop-change.change-index none
    (string_bytes c.args.text.now)
    (string_bytes c.loop-change.text) (string_bytes c.put_change.new.text) here
    c.loop-change.invariant c.in_ok-put_change.ensures
