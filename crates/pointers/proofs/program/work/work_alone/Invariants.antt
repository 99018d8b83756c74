use Rattle.pointers.proofs.program.work.work_alone.Given as goal

abbrev pub ghosts-work_at : goal.ghosts-work_at
ghosts-work_at g a = record { claims = a.blank.name; desk = a.part.desk }
