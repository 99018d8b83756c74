use Rattle.control_block.specs.Desks.{IsSameDesk}
use Rattle.scene_structures.specs.Stacks.{ServesDomain, StandsIn}
use Rattle.scene_tests.proofs.calls.running.all.Given as goal

abbrev pub invariant-loop-number : goal.invariant-loop-number
invariant-loop-number g l = record {
  stack : StandsIn l.kit.stack l.domain;
  observers : StandsIn l.kit.observers l.domain;
  scene : ServesDomain l.domain l.kit.scene;
  pile : ServesDomain l.domain l.kit.pile;
  same : IsSameDesk l.initial.desk l.desk;
}
