use Rattle.std.proofs.Common.{arith}
use Rattle.step_threads.proofs.Prelude.{common_steps}
use Rattle.step_threads.proofs.thread.Thread.act.Goals as goal

pub begin_act-requires : goal.begin_act-requires
begin_act-requires c =
    let le = c.requires.fits.within in
    record { fits = c.requires.fits; rest = c.requires.rest; none = c.requires.none; within = omega (arith, le) }

pub returns-then-self-len-clause-stepped : goal.returns-then-self-len-clause-stepped
returns-then-self-len-clause-stepped c = grind (arith, common_steps)

pub returns-then-self-len-clause-fits : goal.returns-then-self-len-clause-fits
returns-then-self-len-clause-fits c = c.requires.fits
