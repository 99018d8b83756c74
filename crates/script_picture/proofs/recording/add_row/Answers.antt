use Rattle.std.proofs.Common.{◌∙◌, arith, refl, sym}
use Rattle.step_core.specs.Worlds.{abstraction}
use Rattle.script_picture.specs.Acts.{seen_in}
use Rattle.script_picture.proofs.Recordings.{adds_behind, adds_inside, adds_outside}
use Rattle.script_picture.proofs.recording.add_row.Goals as goal

pub changes_of-requires : goal.changes_of-requires
changes_of-requires c = let blocks = c.requires.fits.blocks in omega (arith, blocks)

pub returns-then-rows-from : goal.returns-then-rows-from
returns-then-rows-from c =
    adds_behind c.args.rows.now
    (seen_in (abstraction c.args.world.now) (c.args.made.thread, c.args.made.said))
    (omega arith)

pub returns-then-not-has : goal.returns-then-not-has
returns-then-not-has c =
    adds_outside c.args.rows.now _
    (seen_in (abstraction c.args.world.now) (c.args.made.thread, c.args.made.said))
    (omega arith)
    (sym c.has.ensures ∙ c.if-not-has.true) refl refl refl refl

pub returns : goal.returns
returns c =
    let after = abstraction c.args.world.now in
    adds_inside c.args.rows.now _ (seen_in after (c.args.made.thread, c.args.made.said))
    c.in_ok-row.row (omega arith) (sym c.has.ensures ∙ c.if-not-has.false)
    (c.in_ok-row.ensures after c.in_ok-changes.ensures c.in_ok-pointers.ensures) refl refl refl c.in_ok-push.ensures.items
