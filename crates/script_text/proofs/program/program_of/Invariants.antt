use Rattle.std.proofs.Common.{◌≡◌, map, take}
use Rattle.script_text.proofs.Prelude.{program_in, section_of}
use Rattle.step_threads.specs.Programs.{part_of}
use Rattle.script_text.proofs.program.program_of.Given as goal

abbrev pub invariant-loop-thread : goal.invariant-loop-thread
invariant-loop-thread l =
    map part_of l.actors.items ≡ program_in (map section_of (take l.thread-index l.threads))
