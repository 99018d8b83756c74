use Rattle.std.proofs.Common.{rules}
use Rattle.script_text.proofs.WordLemmas.{name_utf8}
use Rattle.script_text.proofs.words.word.name_of.Goals as goal

pub returns-in-Err : goal.returns-in-Err
returns-in-Err c = absurd (c.in-Err.ensures.cases.0 (name_utf8 c.args.word.now (search rules)))
