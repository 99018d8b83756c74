use Rattle.std.proofs.Common.{sym, subst}
use Rattle.script_runner.proofs.Prelude.{IsActed, Question}
use Rattle.script_runner.proofs.acts.questions.ask.Goals as goal
use Rattle.step_threads.specs.declared.programs.act.Act.TheVariants as act

pub returns-in-Place-clause-acts : goal.returns-in-Place-clause-acts
returns-in-Place-clause-acts g c =
    subst (λ (q : Question). IsActed c.args.hand c.args.table.now c.args.taken (act.Ask q) c.place.result c.place.new.table) (sym c.in-Place.is)
    c.place.ensures.acts

pub returns-in-Same-clause-acts : goal.returns-in-Same-clause-acts
returns-in-Same-clause-acts g c =
    subst (λ (q : Question). IsActed c.args.hand c.args.table.now c.args.taken (act.Ask q) c.same.result c.same.new.table) (sym c.in-Same.is)
    c.same.ensures.acts
