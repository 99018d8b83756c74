use Rattle.std.proofs.Common.{◌≡◌, map, take}
use Rattle.script_text.proofs.Prelude.{section_of}
use Rattle.script_text.proofs.conversion.copies_of.Given as goal

abbrev pub invariant-loop-thread : goal.invariant-loop-thread
invariant-loop-thread l =
    map section_of l.copies.items ≡ map section_of (take l.thread-index l.threads)
