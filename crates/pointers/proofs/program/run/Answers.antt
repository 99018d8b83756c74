use Rattle.std.proofs.Common.{◌∙◌}
use Rattle.pointers.proofs.Runs.{opened_none}
use Rattle.pointers.proofs.program.run.Goals as goal

pub close_whole-census-requires-clause-none : goal.close_whole-census-requires-clause-none
close_whole-census-requires-clause-none g c =
    let o = c.in-Some-open_domain.opened in
    c.lend-failed.ensures.whole.1 ∙ opened_none c.args.shape o.0 o.1 c.in-Some-open_domain.ensures
