use Rattle.pointers.proofs.program.leads.lead_alone.Given as goal

abbrev pub ghosts-lead_at : goal.ghosts-lead_at
ghosts-lead_at g a = record { claims = a.blank.name; desk = a.part.desk }
