use Rattle.std.proofs.Common.{◌≡◌, ◌+◌, ◌-◌, None, sym, ◌∙◌, subst, arith}
use Rattle.script_runner.proofs.Prelude.{IsDealt, SetsKind}
use Rattle.step_threads.specs.declared.programs.act.Act.TheVariants as act
use Rattle.script_runner.proofs.Emptying as kinds
use Rattle.script_runner.proofs.Parting as law
use Rattle.script_runner.proofs.acts.leaves.let_drop.Goals as goal

pub returns-then-busy-clause-acts : goal.returns-then-busy-clause-acts
returns-then-busy-clause-acts g c =
    let t = c.args.table.now in
    let at : (c.args.hand - 1) + 1 ≡ c.args.hand = let a = c.requires.other in omega (arith, a) in
    let e = c.top_of-top.ensures in
    law.drop_top c.args.hand t c.reset.new.self c.top_of-top.new.table c.requires.seated c.requires.settled (c.args.hand - 1) c.args.taken
    c.top_of-top.result c.in-Some.field-0 at (c.is_full-busy.ensures (c.args.hand + 1) (omega (arith, at)) ∙ c.if-busy.true) c.in-Some.ensures.left e.none
    e.told e.same

pub returns-else-busy-clause-acts : goal.returns-else-busy-clause-acts
returns-else-busy-clause-acts g c =
    let t = c.args.table.now in
    let at : (c.args.hand - 1) + 1 ≡ c.args.hand = let a = c.requires.other in omega (arith, a) in
    subst (λ v. IsDealt c.args.hand t c.args.taken act.Drop (law.left c.args.taken None) v) (sym c.top_of-top.ensures.same)
    (law.drop_free c.args.hand t c.reset.new.self c.requires.seated (c.args.hand - 1) c.args.taken c.in-Some.field-0 at
    (c.is_full-busy.ensures (c.args.hand + 1) (omega (arith, at)) ∙ c.if-busy.false) c.in-Some.ensures.left)

pub returns-then-busy-clause-kinds : goal.returns-then-busy-clause-kinds
returns-then-busy-clause-kinds g c =
    let t = c.args.table.now in
    subst (λ v. SetsKind (c.args.hand - 1) None t v) (sym c.top_of-top.ensures.same)
    (kinds.reset_set t c.reset.new.self (c.args.hand - 1) c.in-Some.field-0 c.in-Some.ensures.left)

pub returns-else-busy-clause-kinds : goal.returns-else-busy-clause-kinds
returns-else-busy-clause-kinds g c =
    let t = c.args.table.now in
    subst (λ v. SetsKind (c.args.hand - 1) None t v) (sym c.top_of-top.ensures.same)
    (kinds.reset_set t c.reset.new.self (c.args.hand - 1) c.in-Some.field-0 c.in-Some.ensures.left)

pub returns-in-None-clause-acts : goal.returns-in-None-clause-acts
returns-in-None-clause-acts g c =
    let e = c.in-None.ensures.vacant in
    let t = c.args.table.now in
    let at : (c.args.hand - 1) + 1 ≡ c.args.hand = let a = c.requires.other in omega (arith, a) in
    subst (λ v. IsDealt c.args.hand t c.args.taken act.Drop (law.left c.args.taken None) v) (sym e.1)
    (law.drop_none c.args.hand t t c.requires.seated (c.args.hand - 1) c.args.taken at e.0)

pub returns-in-None-clause-kinds : goal.returns-in-None-clause-kinds
returns-in-None-clause-kinds g c =
    let e = c.in-None.ensures.vacant in
    let t = c.args.table.now in
    subst (λ v. SetsKind (c.args.hand - 1) None t v) (sym e.1) (kinds.vacant_set t (c.args.hand - 1) e.0)
