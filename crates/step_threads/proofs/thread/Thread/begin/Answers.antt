use Rattle.std.proofs.Common.{ℕ, Bool, false, Some, None, Option, sym, refl, ap, ◌∙◌, subst}
use Rattle.step_threads.proofs.Prelude.{FitsThread, frame_settled, frame_view, GhostState, Make}
use Rattle.step_threads.proofs.Prelude.{Making, Quiet, rest, Said, silent, task_at}
use Rattle.control_word.specs.declared.refusal.Refusal.TheVariants.{Full}
use Rattle.step_threads.specs.declared.said.Answer.TheVariants.{Refused}
use Rattle.step_threads.specs.Steps.{begins}
use Rattle.step_threads.proofs.holding.Storing.{taken_stored}
use Rattle.step_threads.proofs.Steps.{at_act, stepped_as, waits_act}
use Rattle.step_threads.proofs.Threads.{fits_prepare, least_here, least_nowhere, make_empty}
use Rattle.step_threads.proofs.Threads.{refused_ready, resting}
use Rattle.step_threads.proofs.thread.Thread.begin.Goals as goal

pub go_on-requires-clause-ready : goal.go_on-requires-clause-ready
go_on-requires-clause-ready c = refused_ready c.args.self.now.frame c.args.form c.requires.begins.within c.requires.begins.fits.ready c.requires.act

pub prepare-requires-clause-stored : goal.prepare-requires-clause-stored
prepare-requires-clause-stored c =
    taken_stored c.args.desk c.args.self.now.stock.blocks c.take_least.new.self.blocks c.args.self.now.stock.room c.args.table.now c.in-Some.block
    (resting c.args.desk c.args.self.now c.args.table.now c.requires.begins.fits c.requires.begins.rest) c.in-Some.ensures.least.0

pub returns-in-Some-clause-fits : goal.returns-in-Some-clause-fits
returns-in-Some-clause-fits c =
    subst (λ (v : GhostState). FitsThread c.args.desk
    (record { frame = c.args.self.now.frame; stock = c.take_least.new.self; pending_call = Making c.in-Some.block 0 false }) v) (sym c.prepare.ensures)
    (fits_prepare c.args.desk c.args.self.now c.args.table.now c.in-Some.block c.take_least.new.self c.args.form c.assert_invariant.ensures
    c.requires.begins.fits c.requires.begins.rest c.requires.begins.none c.requires.begins.within c.requires.act c.in-Some.ensures.least.0
    c.in-Some.ensures.least.1 c.take_least.ensures.room)

pub returns-in-None-clause-stepped : goal.returns-in-None-clause-stepped
returns-in-None-clause-stepped c =
    let t = c.args.self.now in
    let v = c.args.table.now in
    let k = (task_at t.frame).statement in
    let is = at_act c.args.desk t v (Make c.args.form) c.requires.begins.rest c.requires.begins.none c.requires.begins.within c.requires.act
    ∙ ap (λ (o : Option ℕ). Some (begins (frame_view t.frame) k (rest t.frame) o))
    (least_nowhere c.args.desk t v c.requires.begins.fits c.requires.begins.rest c.in-None.ensures.least) in
    let empty = make_empty t.frame c.args.form c.requires.begins.within c.requires.begins.fits.ready c.requires.act in
    stepped_as c.args.desk t v (begins (frame_view t.frame) k (rest t.frame) None) _ _ _
    (waits_act t v (Make c.args.form) c.requires.begins.rest c.requires.begins.none c.requires.begins.within c.requires.act) is
    (ap (λ (n : ℕ). Quiet (record { statement = n; answer = Some (Refused Full); ended = None })) c.statement-statement.ensures) refl
    (c.go_on.ensures.frame_view ∙ ap (λ (b : Bool). frame_settled t.frame.registers.slots.items b t.frame.endings.list (rest t.frame)) empty)
    c.requires.begins.rest

pub returns-in-Some-clause-stepped : goal.returns-in-Some-clause-stepped
returns-in-Some-clause-stepped c =
    let t = c.args.self.now in
    let v = c.args.table.now in
    let k = (task_at t.frame).statement in
    let b = c.in-Some.block in
    let s = c.in-Some.ensures.least in
    let is = at_act c.args.desk t v (Make c.args.form) c.requires.begins.rest c.requires.begins.none c.requires.begins.within c.requires.act
    ∙ ap (λ (o : Option ℕ). Some (begins (frame_view t.frame) k (rest t.frame) o))
    (least_here c.args.desk t v b c.take_least.new.self c.requires.begins.fits c.requires.begins.rest s.0 s.1) in
    stepped_as c.args.desk t v (begins (frame_view t.frame) k (rest t.frame) (Some b.0)) _ _ _
    (waits_act t v (Make c.args.form) c.requires.begins.rest c.requires.begins.none c.requires.begins.within c.requires.act) is
    (ap (λ (x : Said). Quiet x) (c.silent.ensures ∙ ap silent c.statement-statement.ensures)) c.prepare.ensures refl refl
