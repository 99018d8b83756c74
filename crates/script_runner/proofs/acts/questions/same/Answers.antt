use Rattle.std.proofs.Common.{Some, sym, subst}
use Rattle.script_runner.proofs.Prelude.{IsActed, IsOwnerAt}
use Rattle.script_runner.specs.Pairs as pairs
use Rattle.step_threads.specs.declared.programs.act.Act.TheVariants as act
use Rattle.step_threads.specs.declared.programs.act.Question.TheVariants as question
use Rattle.step_threads.specs.declared.said.Answer.TheVariants as says
use Rattle.script_runner.proofs.Acting.{went}
use Rattle.script_runner.proofs.Inquiring as law
use Rattle.script_runner.proofs.Refusals.{owner_there}
use Rattle.script_runner.proofs.acts.questions.same.Goals as goal

pub returns-clause-acts : goal.returns-clause-acts
returns-clause-acts g c =
    let t = c.args.table.now in
    subst (λ v. IsActed c.args.hand t c.args.taken (act.Ask (question.Same c.args.first c.args.second))
    (went c.args.taken (Some (says.Same c.same_place-same.result))) v) (sym c.same_place-same.ensures.same)
    (law.same_told c.args.hand c.args.first c.args.taken t t c.requires.seated c.requires.names.0 c.args.second c.same_place-same.result c.requires.names.1
    (subst (λ j. pairs.PointAlike t c.args.first j c.same_place-same.result) c.from-2.ensures
    (subst (λ j. pairs.PointAlike t j c.from-2.result c.same_place-same.result) c.from.ensures c.same_place-same.ensures.told)))

pub same_place-same-requires : goal.same_place-same-requires
same_place-same-requires g c =
    let t = c.args.table.now in (
      subst (IsOwnerAt t.slots) (sym c.from.ensures) (owner_there t.slots c.args.first c.requires.kinds.0),
      subst (IsOwnerAt t.slots) (sym c.from-2.ensures) (owner_there t.slots c.args.second c.requires.kinds.1),
    )
