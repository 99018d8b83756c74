use Rattle.std.proofs.Common.{◌≡◌, ◌<◌, length, arith, rules}
use Rattle.script_stepper.proofs.TurnLemmas.{list_some, list_none}
use Rattle.script_stepper.proofs.turns.turns_of.Goals as goal

pub returns-then-is_empty : goal.returns-then-is_empty
returns-then-is_empty c =
    let none : length c.args.text.now ≡ 0 = search rules in
    rw c.new-turns.ensures.items (list_none c.args.threads c.args.text.now none)

pub loop-word-init : goal.loop-word-init
loop-word-init c =
    let some : 0 < length c.args.text.now = search rules in
    record {
      read = rw c.new-turns.ensures.items (list_some c.args.threads c.args.text.now some);
      number = omega arith;
    }
