use Rattle.std.proofs.Common.{◌≡◌, ℕ, List, length}
use Rattle.script_stepper.proofs.Prelude.{AbstractState, IsRunOut, script_abstraction, ScriptView}
use Rattle.script_stepper.proofs.OneTrace.{one_trace}
use Rattle.script_stepper.proofs.TurnBounds.{items_named}
use Rattle.script_stepper.proofs.runs.end.end_of.Goals as goal

pub run_out-requires : goal.run_out-requires
run_out-requires c =
    items_named c.threads.result (length c.in_ok-script.script.threads) c.args.turns.now c.in_ok-turns.turns.items c.as_slice.result.now
    c.threads.ensures.number c.as_slice.ensures.value c.in_ok-turns.ensures

-- a script and its turns lead to one end, whatever is answered
one : (listed : List ℕ) (read : ScriptView) (last other : AbstractState) → IsRunOut listed (script_abstraction read) last
    → IsRunOut listed (script_abstraction read) other → last ≡ other
one listed read last other p q = (one_trace listed (script_abstraction read) p.0 q.0 last other p.1 q.1).1

pub returns-in_err-script-clause-one : goal.returns-in_err-script-clause-one
returns-in_err-script-clause-one c = λ read listed last other p q. one listed read last other p q

pub returns-in_err-turns-clause-one : goal.returns-in_err-turns-clause-one
returns-in_err-turns-clause-one c = λ read listed last other p q. one listed read last other p q

pub returns-clause-one : goal.returns-clause-one
returns-clause-one c = λ read listed last other p q. one listed read last other p q
