use Rattle.std.proofs.Common.{[], Err, refl}
use Rattle.script_text.specs.declared.fault.Fault.TheVariants.{Memory}
use Rattle.sptr.proofs.serve.show_error.Goals as goal

pub returns-in-Err-clause-shows : goal.returns-in-Err-clause-shows
returns-in-Err-clause-shows g c =
    record {
      text = [];
      answer = Err Memory;
      writes = refl;
      says = c.refuse.ensures.status;
      fails = c.requires;
      reports = c.refuse.ensures.line;
    }
