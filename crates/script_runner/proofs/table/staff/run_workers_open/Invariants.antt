use Rattle.script_runner.proofs.table.staff.run_workers_open.Given as goal

abbrev pub ghosts-staff_in : goal.ghosts-staff_in
ghosts-staff_in g a = record { domain = a.domain.now }
