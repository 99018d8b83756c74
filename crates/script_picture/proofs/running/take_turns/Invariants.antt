use Rattle.std.proofs.Common.{take}
use Rattle.script_picture.specs.Recording.{HasTaken}
use Rattle.script_picture.proofs.running.take_turns.Given as goal

abbrev pub invariant-loop-thread : goal.invariant-loop-thread
invariant-loop-thread l = HasTaken (take l.thread-index l.turns) l.fn.world l.world l.fn.rows l.rows
