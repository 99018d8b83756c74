use Rattle.std.specs.Prelude.{string_bytes}
use Rattle.run_picture.specs.Elements.{Shows}
use Rattle.run_picture.specs.Shown.{thread_titles}
use Rattle.run_picture.proofs.ends.put_threads.Given as goal

abbrev pub invariant-loop-index : goal.invariant-loop-index
invariant-loop-index l =
    Shows (string_bytes l.fn.text) (string_bytes l.text) (thread_titles l.index)
