use Rattle.std.proofs.Common.{◌≡◌, ◌++◌, take, string_bytes}
use Rattle.script_text.proofs.Prelude.{call_line, flat_map}
use Rattle.text_lines.proofs.Ended.{with_feed}
use Rattle.script_text.proofs.canonical.put_thread.Given as goal

abbrev pub invariant-loop-call : goal.invariant-loop-call
invariant-loop-call l =
    string_bytes l.text ≡ string_bytes l.fn.text ++ flat_map
    (λ call. with_feed (call_line l.thread.names call)) (take l.call-index l.thread.calls.items)
