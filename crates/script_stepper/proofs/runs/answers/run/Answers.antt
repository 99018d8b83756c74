use Rattle.std.proofs.Common.{ℕ, ◌≤◌, string_bytes, All, sym, subst}
use Rattle.script_stepper.proofs.Prelude.{WorldState}
use Rattle.script_stepper.specs.Runs.{IsShown}
use Rattle.script_stepper.proofs.runs.answers.run.Goals as goal

pub text_of-requires-clause-threads : goal.text_of-requires-clause-threads
text_of-requires-clause-threads c =
    subst (λ (n : ℕ). All (λ t. (1 ≤ t) × (t ≤ n)) c.args.turns.now) (sym c.in_ok-world.ensures.threads) c.requires

pub returns-in-Ok-clause-ok : goal.returns-in-Ok-clause-ok
returns-in-Ok-clause-ok c =
    subst (λ (u : WorldState). IsShown c.args.pace c.args.turns.now u (string_bytes c.in-Ok.text)) c.in_ok-world.ensures.world_state c.in-Ok.ensures
