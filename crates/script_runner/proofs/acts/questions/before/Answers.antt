use Rattle.std.proofs.Common.{Some, sym, subst}
use Rattle.script_runner.proofs.Prelude.{IsActed, IsHandleAt}
use Rattle.script_runner.specs.Pairs as pairs
use Rattle.step_threads.specs.declared.programs.act.Act.TheVariants as act
use Rattle.step_threads.specs.declared.programs.act.Question.TheVariants as question
use Rattle.step_threads.specs.declared.said.Answer.TheVariants as says
use Rattle.script_runner.proofs.Acting.{went}
use Rattle.script_runner.proofs.Inquiring as law
use Rattle.script_runner.proofs.Refusals.{handle_there}
use Rattle.script_runner.proofs.acts.questions.before.Goals as goal

pub returns-clause-acts : goal.returns-clause-acts
returns-clause-acts g c =
    let t = c.args.table.now in
    subst (λ v. IsActed c.args.hand t c.args.taken (act.Ask (question.Before c.args.first c.args.second))
    (went c.args.taken (Some (says.Before c.owner_before-before.result))) v) (sym c.owner_before-before.ensures.same)
    (law.before_told c.args.hand c.args.first c.args.taken t t c.requires.seated c.requires.names.0 c.args.second c.owner_before-before.result
    c.requires.names.1
    (subst (λ j. pairs.AreInOrder t c.args.first j c.owner_before-before.result) c.from-2.ensures
    (subst (λ j. pairs.AreInOrder t j c.from-2.result c.owner_before-before.result) c.from.ensures c.owner_before-before.ensures.told)))

pub owner_before-before-requires : goal.owner_before-before-requires
owner_before-before-requires g c =
    let t = c.args.table.now in (
      subst (IsHandleAt t.slots) (sym c.from.ensures) (handle_there t.slots c.args.first c.requires.kinds.0.0 c.requires.kinds.0.1),
      subst (IsHandleAt t.slots) (sym c.from-2.ensures) (handle_there t.slots c.args.second c.requires.kinds.1.0 c.requires.kinds.1.1),
    )
