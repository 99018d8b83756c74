use Rattle.step_threads.proofs.Refusals.{passed_over}
use Rattle.step_threads.proofs.thread.Thread.refuse.Goals as goal

pub go_on-requires-clause-ready : goal.go_on-requires-clause-ready
go_on-requires-clause-ready c = passed_over c.args.self.now.frame c.args.cell c.requires.begins.within c.requires.begins.fits.ready c.requires.act
