use Rattle.std.proofs.Common.{ℕ, Bool, true, false, Some, sym, refl, ap, ◌∙◌, inr}
use Rattle.step_threads.proofs.Prelude.{as_word, cell_of_name, Event, ghost_after_step, Holds}
use Rattle.step_threads.proofs.Prelude.{is_expected, model_state, OnCell, Quiet, Rest, Said}
use Rattle.step_threads.proofs.Prelude.{slot_value, task_at}
use Rattle.step_table.specs.declared.cell_steps.cell_step.CellStep.TheVariants.{Holds as HoldsStep}
use Rattle.step_threads.specs.declared.said.Answer.TheVariants as answer
use Rattle.step_threads.proofs.Acting.{acts_as, can_act, went_quiet}
use Rattle.step_threads.proofs.Going.{may_go_at, stays_ready}
use Rattle.step_threads.proofs.HoldSteps.{answers_there, asks_so, goes_or_not, held_on, looked_at}
use Rattle.step_threads.proofs.Named.{told_as}
use Rattle.step_threads.proofs.thread.Thread.holds.Goals as goal

pub refuse-requires-clause-act : goal.refuse-requires-clause-act
refuse-requires-clause-act c = inr (c.args.name, inr (inr c.requires.act))

pub returns-then-not-is_there-clause-stepped : goal.returns-then-not-is_there-clause-stepped
returns-then-not-is_there-clause-stepped c = c.refuse.ensures.stepped

pub returns-then-not-is_there-clause-fits : goal.returns-then-not-is_there-clause-fits
returns-then-not-is_there-clause-fits c = c.refuse.ensures.fits

pub go_on-requires-clause-ready : goal.go_on-requires-clause-ready
go_on-requires-clause-ready c =
    let t = c.args.self.now in
    let r = c.requires in
    stays_ready t.frame (Holds c.args.name c.args.cell) r.begins.within r.begins.fits.ready r.act (λ q. q) refl

pub holds-holds-requires-clause-can : goal.holds-holds-requires-clause-can
holds-holds-requires-clause-can c =
    let r = c.requires in can_act c.args.desk c.args.self.now c.args.table.now r.begins

pub holds-holds-requires-clause-kind : goal.holds-holds-requires-clause-kind
holds-holds-requires-clause-kind c =
    may_go_at c.args.self.now.frame.registers.slots.items c.args.cell c.args.name c.from-from.result c.may_go_in.result true c.may_go_in.ensures
    c.from-from.ensures c.if-not-may_go_in.false

pub returns-then-not-may_go_in-clause-stepped : goal.returns-then-not-may_go_in-clause-stepped
returns-then-not-may_go_in-clause-stepped c =
    let d = c.args.desk in
    let t = c.args.self.now in
    let v = c.args.table.now in
    let r = c.requires in
    let slots = t.frame.registers.slots.items in
    let k = c.args.name in
    let cell = c.args.cell in
    let there = sym c.is_there.ensures ∙ c.if-not-is_there.false in
    let never = goes_or_not slots cell k false there
    (may_go_at slots cell k c.from-from.result c.may_go_in.result false c.may_go_in.ensures c.from-from.ensures c.if-not-may_go_in.true) in
    let n = (task_at t.frame).statement in
    let says = answers_there slots cell k false (is_expected (model_state v) slots k cell) there never in
    acts_as d t v r.begins (Holds k cell) r.act (looked_at d t v cell k false) Rest _ _ _ (asks_so d t v cell k false never) refl
    (ap (λ (s : Said). Quiet s) (c.tells.ensures ∙ ap (λ (i : ℕ). told_as i (Some (answer.Holds false))) c.statement-statement.ensures
    ∙ sym (ap (told_as n) says))) refl
    c.go_on.ensures.frame_view r.begins.rest

pub returns-then-not-may_go_in-clause-fits : goal.returns-then-not-may_go_in-clause-fits
returns-then-not-may_go_in-clause-fits c =
    let d = c.args.desk in
    let v = c.args.table.now in
    let r = c.requires in
    went_quiet d c.args.self.now v r.begins c.go_on.new.self (c.go_on.ensures.on d v r.begins.fits.holds)

pub returns-clause-stepped : goal.returns-clause-stepped
returns-clause-stepped c =
    let d = c.args.desk in
    let t = c.args.self.now in
    let v = c.args.table.now in
    let r = c.requires in
    let slots = t.frame.registers.slots.items in
    let k = c.args.name in
    let cell = c.args.cell in
    let there = sym c.is_there.ensures ∙ c.if-not-is_there.false in
    let always = goes_or_not slots cell k true there
    (may_go_at slots cell k c.from-from.result c.may_go_in.result true c.may_go_in.ensures c.from-from.ensures c.if-not-may_go_in.false) in
    let n = (task_at t.frame).statement in
    let says = answers_there slots cell k true (is_expected (model_state v) slots k cell) there always in
    let look = c.holds-holds.ensures in
    acts_as d t v r.begins (Holds k cell) r.act (looked_at d t v cell k true) Rest _ _ _ (asks_so d t v cell k true always) refl
    (ap (λ (s : Said). Event s) (c.tells-2.ensures ∙ ap (λ (i : ℕ). told_as i (Some (answer.Holds c.holds-holds.result))) c.statement-statement.ensures
    ∙ ap (λ (b : Bool). told_as n (Some (answer.Holds b))) look.exact ∙ sym (ap (told_as n) says)))
    (look.table
    ∙ ap (λ (b : Bool). ghost_after_step v d (OnCell (HoldsStep (cell_of_name (model_state v) slots cell) (as_word (slot_value slots k)) b))) look.exact)
    look.frame_view r.begins.rest

pub returns-clause-fits : goal.returns-clause-fits
returns-clause-fits c =
    let v = c.args.table.now in
    let slots = c.args.self.now.frame.registers.slots.items in
    let look = c.holds-holds.ensures in
    held_on c.args.desk c.args.self.now v c.requires.begins (cell_of_name (model_state v) slots c.args.cell) (as_word (slot_value slots c.args.name))
    c.holds-holds.result c.holds-holds.new.self c.holds-holds.new.table c.assert_invariant.ensures look.table look.on
