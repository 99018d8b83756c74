use Rattle.std.proofs.Common.{◌≡◌, false, length}
use Rattle.script_stepper.proofs.Writing.{Progress}
use Rattle.script_stepper.proofs.sink.write_all.Given as goal

abbrev pub invariant-loop-rest : goal.invariant-loop-rest
invariant-loop-rest g l = record {
  progress : Progress (g.S.Sink.taken l.fn.sink) (g.S.Sink.taken l.sink) l.bytes l.rest;
  fine : g.S.Sink.has_failed l.sink ≡ false;
}

abbrev pub decreases-loop-rest : goal.decreases-loop-rest
decreases-loop-rest g l = length l.rest
