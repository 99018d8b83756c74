use Rattle.std.proofs.Common.{rules}
use Rattle.owner_text.proofs.WordLemmas.{label_utf8}
use Rattle.owner_text.proofs.words.label_of.Goals as goal

pub returns-in-Err : goal.returns-in-Err
returns-in-Err c = absurd (c.in-Err.ensures.cases.0 (label_utf8 c.args.rest.now (search rules)))
