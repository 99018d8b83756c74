use Rattle.std.proofs.Common.{◌≡◌, ◌++◌, string_bytes}
use Rattle.script_stepper.proofs.Prelude.{abstraction, census_lines, ended, state_in}
use Rattle.script_stepper.proofs.runs.totals.put_census.Given as goal

abbrev pub invariant-loop-before : goal.invariant-loop-before
invariant-loop-before l = string_bytes l.text ≡ string_bytes l.fn.text ++ ended (census_lines l.before (state_in (abstraction l.world)))
