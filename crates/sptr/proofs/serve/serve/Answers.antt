use Rattle.clap.specs.Words.{kind_of}
use Rattle.sptr.proofs.Plainly.{answered_plainly, helped_plainly, mistaken_plainly, not_helped}
use Rattle.sptr.proofs.Plainly.{not_mistaken, not_told, told_plainly, turned_plainly}
use Rattle.sptr.proofs.serve.serve.Goals as goal

pub returns-in-Ok-clause-answers : goal.returns-in-Ok-clause-answers
returns-in-Ok-clause-answers g c asked list plain =
    answered_plainly _ _ _ _ _ _ _ c.in-Ok.line.asked asked _ list _ _ c.in-Ok.ensures.turns
    c.in-Ok.ensures.list c.in-Ok.ensures.text c.in-Ok.ensures.asks plain
    c.carry_out.ensures.answered

pub returns-in-Err-clause-answers : goal.returns-in-Err-clause-answers
returns-in-Err-clause-answers g c asked list plain =
    turned_plainly _ _ _ _ _ _ _ (kind_of c.in-Err.error) asked list c.in-Err.ensures.kinds plain
    c.refuse_words.ensures.away

pub returns-in-Ok-clause-help : goal.returns-in-Ok-clause-help
returns-in-Ok-clause-help g c help = not_helped _ help c.in-Ok.ensures.kinds

pub returns-in-Err-clause-help : goal.returns-in-Err-clause-help
returns-in-Err-clause-help g c help =
    helped_plainly _ _ _ _ _ _ (kind_of c.in-Err.error) c.in-Err.ensures.kinds help
    c.refuse_words.ensures.away

pub returns-in-Ok-clause-version : goal.returns-in-Ok-clause-version
returns-in-Ok-clause-version g c version = not_told _ version c.in-Ok.ensures.kinds

pub returns-in-Err-clause-version : goal.returns-in-Err-clause-version
returns-in-Err-clause-version g c version =
    told_plainly _ _ _ _ _ _ (kind_of c.in-Err.error) c.in-Err.ensures.kinds version
    c.refuse_words.ensures.away

pub returns-in-Ok-clause-missing : goal.returns-in-Ok-clause-missing
returns-in-Ok-clause-missing g c alone = not_mistaken _ alone c.in-Ok.ensures.kinds

pub returns-in-Err-clause-missing : goal.returns-in-Err-clause-missing
returns-in-Err-clause-missing g c alone =
    mistaken_plainly _ _ _ _ _ _ (kind_of c.in-Err.error) c.in-Err.ensures.kinds alone
    c.refuse_words.ensures.away
