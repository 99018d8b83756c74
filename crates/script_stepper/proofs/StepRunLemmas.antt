-- Runs by single steps, and their text.
use Rattle.std.proofs.Common.{◌≡◌, ℕ, List, [], ◌++◌, sym, ap, ◌∙◌, subst}
use Rattle.script_stepper.proofs.Prelude.{abstraction, closing_lines, ended, flat_map, IsStepText}
use Rattle.script_stepper.proofs.Prelude.{step_lines, TraceStep, WorldState}
use Rattle.script_stepper.specs.StepRuns.{IsStepRun}
use Rattle.script_stepper.proofs.LineLemmas.{lines_then}

pub step_text_is : (turns : List ℕ) (u u' : WorldState) (steps told : List TraceStep) (a b c : List ℕ) → IsStepRun turns u steps u'
    → told ≡ steps → a ≡ []
    → b ≡ a ++ ended (flat_map step_lines told) → c ≡ b ++ ended (closing_lines (abstraction u')) → IsStepText turns u c
step_text_is turns u u' steps told a b c run all none p q =
    record {
      steps = told;
      last = u';
      run = subst (λ (xs : List TraceStep). IsStepRun turns u xs u') (sym all) run;
      says =
          lines_then (flat_map step_lines told) (closing_lines (abstraction u')) a b c p q
          ∙ ap (λ (t : List ℕ). t ++ ended (flat_map step_lines told ++ closing_lines (abstraction u'))) none;
    }
