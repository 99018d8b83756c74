use Rattle.std.specs.Prelude.{string_bytes}
use Rattle.run_picture.specs.Shown.{thread_titles, top_words}
use Rattle.run_picture.proofs.Showing.{shows_then}
use Rattle.run_picture.proofs.document.put_top.Goals as goal

pub returns : goal.returns
returns c =
    shows_then (string_bytes c.args.text.now) (string_bytes c.put_legends.new.text)
    (string_bytes c.put_threads.new.text) (top_words 0) (thread_titles c.args.threads)
    c.in_ok-put_legends.ensures c.in_ok-put_threads.ensures
