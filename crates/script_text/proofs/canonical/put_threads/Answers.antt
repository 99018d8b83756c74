use Rattle.std.proofs.Common.{string_bytes}
use Rattle.script_text.proofs.PrintLemmas.{threads_done}
use Rattle.script_text.proofs.canonical.put_threads.Goals as goal

pub returns : goal.returns
returns c =
    threads_done c.args.threads.now c.first-item.result (string_bytes c.args.text.now)
    (string_bytes c.put_thread.new.text)
    (string_bytes c.put_others.new.text)
    c.in-len1-up.len_at_least c.first-item.is c.in_ok-put_thread.ensures c.in_ok-put_others.ensures
