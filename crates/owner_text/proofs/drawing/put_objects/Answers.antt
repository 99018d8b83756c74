use Rattle.std.proofs.Common.{string_bytes}
use Rattle.owner_text.proofs.Prelude.{draft_of, node_lines}
use Rattle.owner_text.proofs.LineLemmas.{numbers_on}
use Rattle.owner_text.proofs.drawing.put_objects.Goals as goal

pub loop-before-preserved : goal.loop-before-preserved
loop-before-preserved c =
    numbers_on (node_lines (draft_of c.args.draft.now) c.args.found.now) c.loop-before.before
    (string_bytes c.args.text.now)
    (string_bytes c.loop-before.text) (string_bytes c.put_object.new.text) c.loop-before.invariant
    c.in_ok-put_object.ensures
