use Rattle.std.proofs.Common.{rules, sym}
use Rattle.text_lines.proofs.NumberLemmas.{digits_utf8, no_number}
use Rattle.text_lines.proofs.number.number_of.Goals as goal

pub returns-in_default : goal.returns-in_default
returns-in_default c =
    absurd (c.in_default.ensures.cases.0 (digits_utf8 c.args.word.now (search rules)))

pub returns-in-Err : goal.returns-in-Err
returns-in-Err c =
    sym (no_number c.args.word.now c.in-Ok.text.now c.in-Ok.ensures.cases.0 (search rules)
    c.in-Err.ensures.value.0)
