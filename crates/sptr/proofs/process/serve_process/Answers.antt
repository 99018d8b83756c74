use Rattle.std.proofs.Common.{refl}
use Rattle.sptr.proofs.Plainly.{unread}
use Rattle.sptr.proofs.process.serve_process.Goals as goal

pub returns-in-Err-clause-serves : goal.returns-in-Err-clause-serves
returns-in-Err-clause-serves g c =
    unread _ _ _ _ _ _ c.refuse.ensures.status (refl, c.requires) c.refuse.ensures.line
