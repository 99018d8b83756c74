use Rattle.ghost_map.proofs.tests.entries_end_one_by_one.Given as goal

abbrev pub ghosts-sum_of_two : goal.ghosts-sum_of_two
ghosts-sum_of_two g a = record { name = a.blank.name }
