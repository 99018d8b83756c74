use Rattle.std.proofs.Common.{[], ◌++◌}
use Rattle.control_block.proofs.Prelude.{free_holders, frees_in}
use Rattle.control_block.proofs.census.Census.told_holders.Goals as goal

pub returns : goal.returns
returns g c =
    let n = c.args.self.now in
    c.in_ok-note_all_members.ensures.told.tells (λ b. [] ++ free_holders n b (frees_in n))
    (c.in_ok-note_free.ensures.told.tells (λ _. []) c.in_ok-all.ensures)
