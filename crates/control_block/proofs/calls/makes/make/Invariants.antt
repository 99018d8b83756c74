use Rattle.control_block.proofs.calls.makes.make.Given as goal

abbrev pub ghosts-make : goal.ghosts-make
ghosts-make g a = record { block = a.block; enabled = a.enabled; null = a.null; fields = a.fields }
