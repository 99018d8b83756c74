use Rattle.control_word.proofs.packing.Handles.{equal_words, one_word}
use Rattle.control_word.proofs.packed.handle_word.equal_words_are_equivalent.Goals as goal

pub returns-clause-equal : goal.returns-clause-equal
returns-clause-equal c = equal_words

pub returns-clause-equivalent : goal.returns-clause-equivalent
returns-clause-equivalent c = one_word
