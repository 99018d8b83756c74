use Rattle.std.proofs.Common.{string_bytes}
use Rattle.owner_text.proofs.Prelude.{draft_of, edge_lines}
use Rattle.owner_text.proofs.LineLemmas.{lines_on}
use Rattle.owner_text.proofs.drawing.put_handles.Goals as goal

pub loop-handle-preserved : goal.loop-handle-preserved
loop-handle-preserved c =
    lines_on (edge_lines (draft_of c.args.draft.now) c.args.found.now) c.args.handles.now
    c.loop-handle.handle-index _ (string_bytes c.args.text.now)
    (string_bytes c.loop-handle.text) (string_bytes c.put_handle.new.text) c.loop-handle-test.true
    c.loop-handle.invariant c.in_ok-put_handle.ensures
