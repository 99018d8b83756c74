use Rattle.std.proofs.Common.{length, string_bytes, ap, arith}
use Rattle.script_text.proofs.Prelude.{call_line}
use Rattle.text_lines.proofs.Ended.{lines_done}
use Rattle.script_text.proofs.canonical.put_thread.Goals as goal

pub returns : goal.returns
returns c =
    lines_done (call_line c.args.thread.now.names) c.args.thread.now.calls.items
    c.loop-call.call-index
    (string_bytes c.args.text.now) (string_bytes c.loop-call.text)
    (omega (arith, ap length c.deref-call-items.ensures.value, c.loop-call-test.false))
    c.loop-call.invariant
