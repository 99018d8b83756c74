use Rattle.std.proofs.Common.{arith}
use Rattle.script_stepper.proofs.Prelude.{nat_tests}
use Rattle.script_stepper.proofs.Writing.{more_rest}
use Rattle.script_stepper.proofs.sink.write_all.Goals as goal

pub loop-rest-preserved : goal.loop-rest-preserved
loop-rest-preserved g c = record {
  progress = more_rest (g.S.Sink.taken c.args.sink.now) (g.S.Sink.taken c.loop-rest.sink) (g.S.Sink.taken c.write.new.self) c.args.bytes.now
      c.loop-rest.rest.now c.in_ok-n.n c.loop-rest.invariant.progress c.in_ok-n.ensures.bytes;
  fine = grind (arith, nat_tests, c.in_ok-n.ensures.fails, c.loop-rest.invariant.fine);
}
