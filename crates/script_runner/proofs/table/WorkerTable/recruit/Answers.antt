use Rattle.script_runner.proofs.Wholes.{same_whole, split_new, split_old}
use Rattle.script_runner.proofs.table.WorkerTable.recruit.Goals as goal
use Rattle.script_runner.proofs.table.WorkerTable.recruit.Goals.{in-Err, in-Ok}

pub invariant_of-result : goal.invariant_of-result
invariant_of-result g c =
    let e = c.in-Ok.ensures in
    split_new _ c.self.inside.domain.now c.self.inside.desk c.part_of.new.desk c.in-Ok.part.desk _ _ c.self.inside.slots.items c.in-Ok.part.slots.items
    c.self.inside.pile c.in-Ok.part.pile c.self.invariant e.parts e.slots.0 e.bears

pub invariant_of-self : goal.invariant_of-self
invariant_of-self g c =
    elim c.match-part_of.branch [
      | in-Ok w ↦
          split_old _ c.self.inside.domain.now c.self.inside.desk c.part_of.new.desk w.in-Ok.part.desk _ _ c.self.inside.slots.items
          c.self.inside.pile c.self.invariant w.in-Ok.ensures.parts
      | in-Err w ↦
          same_whole _ c.self.inside.domain.now c.self.inside.desk c.part_of.new.desk c.self.inside.slots.items c.self.inside.pile c.self.invariant
          w.in-Err.ensures.same
    ]
