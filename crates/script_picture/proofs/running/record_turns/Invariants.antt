use Rattle.script_picture.proofs.Ending.{Ended}
use Rattle.script_picture.proofs.running.record_turns.Given as goal

abbrev pub invariant-loop-index : goal.invariant-loop-index
invariant-loop-index l = Ended l.turns l.index l.fn.world l.world l.fn.rows l.rows
