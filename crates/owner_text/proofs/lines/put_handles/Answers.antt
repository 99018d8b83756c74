use Rattle.std.proofs.Common.{string_bytes}
use Rattle.owner_text.proofs.Prelude.{handle_text}
use Rattle.owner_text.proofs.LineLemmas.{line_on}
use Rattle.owner_text.proofs.lines.put_handles.Goals as goal

pub loop-handle-preserved : goal.loop-handle-preserved
loop-handle-preserved c =
    line_on (handle_text c.args.labels.now) c.args.handles.now c.loop-handle.handle-index _
    (string_bytes c.args.text.now)
    (string_bytes c.loop-handle.text) (string_bytes c.put_handle.new.text) c.loop-handle-test.true
    c.loop-handle.invariant c.in_ok-put_handle.ensures
