use Rattle.text_lines.proofs.NumberLemmas.{none_given, some_given}
use Rattle.script_text.proofs.words.word.number_of.Goals as goal

pub returns-in-Some : goal.returns-in-Some
returns-in-Some c = some_given c.args.word.now c.in-Some.number _ c.in-Some.ensures

pub returns-in-None : goal.returns-in-None
returns-in-None c = none_given c.args.word.now _ c.in-None.ensures
