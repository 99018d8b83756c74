use Rattle.std.proofs.Common.{◌≡◌, ◌+◌, ◌-◌, ◌≤◌, length}
use Rattle.scene_structures.proofs.Prelude.{bag_of, Carries, empty_slots, HasRoomForEnds}
use Rattle.scene_structures.proofs.Prelude.{IsSameDesk, KeepsOthers, MakesRounds}
use Rattle.scene_structures.specs.Teardowns.{most_rounds}
use Rattle.scene_structures.proofs.tree.rounds.run_down.Given as goal

abbrev pub invariant-loop-pile : goal.invariant-loop-pile
invariant-loop-pile g l = record {
  carries : Carries l.domain l.desk l.pile;
  others : KeepsOthers l.initial.desk l.initial.pile.endings.items l.desk l.pile.endings.items;
  bag : bag_of l.desk ≡ bag_of l.initial.desk;
  held : l.desk.held ≡ l.initial.desk.held;
  same : IsSameDesk l.initial.desk l.desk;
  vacant : l.ended.vacant.items ≡ empty_slots 0 l.ended.slots.items;
  room : HasRoomForEnds (l.domain.shape.blocks + 1) l.ended;
  few : length l.ended.slots.items ≤ l.domain.shape.blocks + 1;
  few_rounds : l.rounds ≤ l.most;
  most : l.most ≡ most_rounds l.domain.shape;
  blocks : l.blocks ≡ l.domain.shape.blocks;
  runs : MakesRounds l.initial.desk l.initial.pile.endings.items l.initial.ended.slots.items l.rounds l.desk l.pile.endings.items l.ended.slots.items;
}

abbrev pub decreases-loop-pile : goal.decreases-loop-pile
decreases-loop-pile g l = l.most - l.rounds
