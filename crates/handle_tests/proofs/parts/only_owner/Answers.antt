use Rattle.std.proofs.Common.{sym, ◌∙◌}
use Rattle.shared_handle.proofs.Callers.{last_of_one}
use Rattle.handle_tests.proofs.parts.only_owner.Goals as goal

pub owner_of-requires : goal.owner_of-requires
owner_of-requires c = (c.requires.0, last_of_one _ _ _ (sym c.requires.1 ∙ c.in-Some.ensures.items))
