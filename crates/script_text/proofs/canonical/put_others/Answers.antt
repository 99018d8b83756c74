use Rattle.std.proofs.Common.{string_bytes}
use Rattle.script_text.proofs.Prelude.{begun_lines, section_of}
use Rattle.text_lines.proofs.Ended.{parts_done}
use Rattle.script_text.proofs.canonical.put_others.Goals as goal

pub returns : goal.returns
returns c =
    parts_done begun_lines section_of c.args.threads.now c.loop-thread.thread-index
    (string_bytes c.args.text.now) (string_bytes c.loop-thread.text) c.loop-thread-test.false
    c.loop-thread.invariant
