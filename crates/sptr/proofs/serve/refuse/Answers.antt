use Rattle.sptr.proofs.Reporting.{is_reported}
use Rattle.sptr.proofs.serve.refuse.Goals as goal

pub returns-clause-line : goal.returns-clause-line
returns-clause-line g c =
    let w = c.write_fault in
    is_reported w.result _ _ _ _ _ w.ensures.written w.ensures.failed w.ensures.kept
