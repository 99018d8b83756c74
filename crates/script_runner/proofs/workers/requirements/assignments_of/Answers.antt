use Rattle.std.proofs.Common.{List, map, All, sym, subst}
use Rattle.script_runner.proofs.Prelude.{Actor, IsSuited, part_of}
use Rattle.script_runner.proofs.Suiting.{script_suits}
use Rattle.step_threads.specs.Programs.{parts_of}
use Rattle.script_runner.proofs.workers.requirements.assignments_of.Goals as goal

pub assignments_for-requires-clause-suits : goal.assignments_for-requires-clause-suits
assignments_for-requires-clause-suits c =
    let told = c.in_ok-program.ensures in
    let suits = script_suits c.args.script.now (parts_of c.in_ok-program.program) told.calls told.sound told.cells told.reads in
    subst (λ (l : List Actor). All IsSuited (map part_of l)) (sym c.as_slice-2.ensures.value) (subst (All IsSuited) (sym told.calls) suits)
