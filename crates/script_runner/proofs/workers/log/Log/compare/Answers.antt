use Rattle.std.proofs.Common.{◌≡◌, true, false, drop, Some, sym, refl, ap, ◌∙◌, subst, inr, arith}
use Rattle.script_runner.proofs.Prelude.{comparison_tasks, HasScriptMembers, IsDealt, MayGoOn, nothing}
use Rattle.script_runner.proofs.Allowances.{stays_compared}
use Rattle.script_runner.proofs.Comparisons as comparisons
use Rattle.script_runner.proofs.Noted as noted
use Rattle.script_runner.proofs.Played as played
use Rattle.step_threads.specs.declared.programs.act.Act.TheVariants as act
use Rattle.script_runner.proofs.workers.log.Log.compare.Goals as goal

pub compare-compared-requires-clause-below : goal.compare-compared-requires-clause-below
compare-compared-requires-clause-below g c =
    comparisons.has_room c.args.kinds.now.items c.args.hand c.args.table.now c.args.name c.args.cell c.args.weak c.requires.suits
    c.assert_invariant.ensures.fits

pub settle-requires-in-Some : goal.settle-requires-in-Some
settle-requires-in-Some g c =
    let may = c.requires.suits in
    let v = c.compare-compared.new.table in
    record {
      vacant = subst (λ q. comparisons.Settling c.args.hand q) (sym c.top_of-ended.ensures.same)
          (record {
            room = inr (comparisons.vacant_compared c.args.kinds.now.items may.stance c.args.hand c.args.table.now v may.arranged
                c.compare-compared.result c.compare-compared.ensures.swapped c.compare-compared.ensures.aside);
            members = subst HasScriptMembers
                (sym (stays_compared c.args.hand c.args.table.now c.args.name c.args.cell c.args.weak c.in-Some.swapped v
                c.in-Some.ensures.compared).shape) may.arranged.members;
          });
    }

pub returns-in-None-clause-goes : goal.returns-in-None-clause-goes
returns-in-None-clause-goes g c todo =
    let s = c.args.self.now in
    let t = c.args.table.now in
    let v = c.compare-compared.new.table in
    let a = act.Compare c.args.name c.args.cell c.args.weak in
    played.act_played c.args.hand c.args.statement t t v refl c.requires.settled c.settle.new.table a nothing s s _ c.settle.new.self
    (subst (λ b. IsDealt c.args.hand t b a nothing v) (sym c.requires.taken) (inr c.in-None.ensures.missing)) (omega arith)
    (noted.nothing s s refl refl refl) (noted.nothing s _ refl refl refl) c.settle.ensures.settled refl c.settle.ensures.taken _

pub returns-in-None-clause-going : goal.returns-in-None-clause-going
returns-in-None-clause-going g c x is todo suits =
    let t = c.args.table.now in
    let v = c.compare-compared.new.table in
    let u = c.settle.new.table in
    let aside = c.compare-compared.ensures.aside (λ e. comparisons.none_some true (sym c.in-None.is ∙ e)) in
    subst (λ b. MayGoOn c.args.kinds.now.items c.args.hand b u
    (drop 1 (comparison_tasks c.args.statement c.args.name c.args.cell c.args.weak todo))) (sym c.settle.ensures.taken)
    (comparisons.missing_on c.args.kinds.now.items x c.args.hand t u is
    (comparisons.limits_quiet t v u c.in-None.ensures.missing.quiet c.settle.ensures.limits) c.args.statement c.args.name c.args.cell c.args.weak todo
    suits c.settle.ensures.over (comparisons.aside_same c.args.hand t v u aside c.settle.ensures.slots))

pub returns-then-swapped-clause-goes : goal.returns-then-swapped-clause-goes
returns-then-swapped-clause-goes g c todo =
    let s = c.args.self.now in
    let t = c.args.table.now in
    played.swapped_played c.args.hand c.args.statement t t c.compare-compared.new.table refl c.requires.settled c.settle-in-Some.new.table
    c.top_of-ended.new.table c.args.name c.args.cell c.args.weak c.top_of-ended.result c.top_of-ended.ensures.none c.top_of-ended.ensures.told
    c.top_of-ended.ensures.same s c.note_compared.new.self c.settle-in-Some.new.self c.in-Some.swapped c.requires.taken c.in-Some.ensures.compared
    c.note_compared.ensures.taken (noted.noted_from _ s c.note_compared.new.self 0 _ c.note_compared.ensures.notes refl refl refl refl)
    c.settle-in-Some.ensures.settled c.settle-in-Some.ensures.taken c.if-swapped.true todo

pub returns-then-swapped-clause-going : goal.returns-then-swapped-clause-going
returns-then-swapped-clause-going g c x is todo suits =
    let t = c.args.table.now in
    let v = c.compare-compared.new.table in
    let u = c.settle-in-Some.new.table in
    let kinds = c.compare-compared.ensures.swapped (c.in-Some.is ∙ ap Some c.if-swapped.true) in
    let stays = stays_compared c.args.hand t c.args.name c.args.cell c.args.weak c.in-Some.swapped v c.in-Some.ensures.compared in
    subst (λ b. MayGoOn c.args.kinds.now.items c.args.hand b u
    (drop 3 (comparison_tasks c.args.statement c.args.name c.args.cell c.args.weak todo)))
    (sym (c.settle-in-Some.ensures.taken ∙ c.note_compared.ensures.taken))
    (comparisons.swapped_on c.args.kinds.now.items x c.args.hand t u is
    (comparisons.limits_on t v c.top_of-ended.new.table u stays c.top_of-ended.ensures.same c.settle-in-Some.ensures.limits)
    c.args.statement c.args.name c.args.cell c.args.weak todo suits c.settle-in-Some.ensures.over
    (comparisons.set_same c.args.hand t v c.top_of-ended.new.table u kinds c.top_of-ended.ensures.same c.settle-in-Some.ensures.slots))

pub returns-then-swapped-clause-limits : goal.returns-then-swapped-clause-limits
returns-then-swapped-clause-limits g c =
    let t = c.args.table.now in
    let v = c.compare-compared.new.table in
    comparisons.limits_on t v c.top_of-ended.new.table c.settle-in-Some.new.table
    (stays_compared c.args.hand t c.args.name c.args.cell c.args.weak c.in-Some.swapped v c.in-Some.ensures.compared)
    c.top_of-ended.ensures.same c.settle-in-Some.ensures.limits

pub returns-else-swapped-clause-goes : goal.returns-else-swapped-clause-goes
returns-else-swapped-clause-goes g c todo =
    let s = c.args.self.now in
    let t = c.args.table.now in
    played.differs_played c.args.hand c.args.statement t t c.compare-compared.new.table refl c.requires.settled c.settle-in-Some.new.table
    c.top_of-ended.new.table c.args.name c.args.cell c.args.weak c.top_of-ended.result c.top_of-ended.ensures.none c.top_of-ended.ensures.told
    c.top_of-ended.ensures.same s c.note_compared.new.self c.settle-in-Some.new.self c.in-Some.swapped c.requires.taken c.in-Some.ensures.compared
    c.note_compared.ensures.taken (noted.noted_from _ s c.note_compared.new.self 0 _ c.note_compared.ensures.notes refl refl refl refl)
    c.settle-in-Some.ensures.settled c.settle-in-Some.ensures.taken c.if-swapped.false _

pub returns-else-swapped-clause-going : goal.returns-else-swapped-clause-going
returns-else-swapped-clause-going g c x is todo suits =
    let t = c.args.table.now in
    let v = c.compare-compared.new.table in
    let u = c.settle-in-Some.new.table in
    let result : c.compare-compared.result ≡ Some false = c.in-Some.is ∙ ap Some c.if-swapped.false in
    let aside = c.compare-compared.ensures.aside (λ e. comparisons.false_true (sym result ∙ e)) in
    let stays = stays_compared c.args.hand t c.args.name c.args.cell c.args.weak c.in-Some.swapped v c.in-Some.ensures.compared in
    subst (λ b. MayGoOn c.args.kinds.now.items c.args.hand b u
    (drop 2 (comparison_tasks c.args.statement c.args.name c.args.cell c.args.weak todo)))
    (sym (c.settle-in-Some.ensures.taken ∙ c.note_compared.ensures.taken))
    (comparisons.differs_on c.args.kinds.now.items x c.args.hand t u is
    (comparisons.limits_on t v c.top_of-ended.new.table u stays c.top_of-ended.ensures.same c.settle-in-Some.ensures.limits)
    c.args.statement c.args.name c.args.cell c.args.weak todo suits c.settle-in-Some.ensures.over
    (comparisons.aside_over c.args.hand t v c.top_of-ended.new.table u aside c.top_of-ended.ensures.same c.settle-in-Some.ensures.slots))

pub returns-else-swapped-clause-limits : goal.returns-else-swapped-clause-limits
returns-else-swapped-clause-limits g c =
    let t = c.args.table.now in
    let v = c.compare-compared.new.table in
    comparisons.limits_on t v c.top_of-ended.new.table c.settle-in-Some.new.table
    (stays_compared c.args.hand t c.args.name c.args.cell c.args.weak c.in-Some.swapped v c.in-Some.ensures.compared)
    c.top_of-ended.ensures.same c.settle-in-Some.ensures.limits
