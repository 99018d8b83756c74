use Rattle.std.specs.Str.Parse.{without_leading_plus}
use Rattle.sptr.proofs.PartWords.{none_parsed, number_parsed}
use Rattle.sptr.proofs.command.number_of.Goals as goal

pub returns-then-number-gt0 : goal.returns-then-number-gt0
returns-then-number-gt0 c =
    number_parsed (without_leading_plus c.args.word.now) c.in-Ok.number c.in-Ok.ensures.value.0
    c.if-number-gt0.true

pub returns-in-Err : goal.returns-in-Err
returns-in-Err c = none_parsed (without_leading_plus c.args.word.now) c.in-Err.ensures.value.0
