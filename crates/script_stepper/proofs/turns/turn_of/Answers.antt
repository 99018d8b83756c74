use Rattle.std.proofs.Common.{arith, rules}
use Rattle.script_stepper.proofs.TurnLemmas.{digits_utf8, no_turn}
use Rattle.script_stepper.proofs.turns.turn_of.Goals as goal

pub returns-in_default : goal.returns-in_default
returns-in_default c = absurd (c.in_default.ensures.cases.0 (digits_utf8 c.args.word.now (search rules)))

pub returns-in-Err : goal.returns-in-Err
returns-in-Err c =
    no_turn c.args.threads c.args.word.now c.in-Ok.text.now (omega arith) c.in-Ok.ensures.cases.0 (search rules) c.in-Err.ensures.value.0
