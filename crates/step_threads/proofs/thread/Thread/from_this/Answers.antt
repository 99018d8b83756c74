use Rattle.std.proofs.Common.{ℕ, false, Some, None, sym, refl, ap, ◌∙◌}
use Rattle.step_threads.proofs.Prelude.{Answer, frame_view, FromThis, inside, outside, place_in}
use Rattle.step_threads.proofs.Prelude.{Quiet, Rest, rest, Said, silent, slot_pointer, task_at}
use Rattle.step_threads.proofs.Giving.{fits_asked, refused_this}
use Rattle.control_word.specs.declared.refusal.Refusal.TheVariants as refused
use Rattle.step_threads.specs.declared.said.Answer.TheVariants as answer
use Rattle.step_threads.proofs.Acting.{acts_as, steps_as, went_quiet}
use Rattle.step_threads.proofs.Going.{found_inside}
use Rattle.step_threads.proofs.ThisSteps.{giving, this_gives, this_none, this_not, this_says}
use Rattle.step_threads.proofs.ThisSteps.{this_went}
use Rattle.step_threads.proofs.thread.Thread.from_this.Goals as goal

pub take-requires-clause-ready : goal.take-requires-clause-ready
take-requires-clause-ready c = refused_this c.args.self.now.frame c.args.name c.args.kind c.requires.begins.within c.requires.begins.fits.ready c.requires.act

pub take-requires-then-not-is_enabled-clause-ready : goal.take-requires-then-not-is_enabled-clause-ready
take-requires-then-not-is_enabled-clause-ready c =
    refused_this c.args.self.now.frame c.args.name c.args.kind c.requires.begins.within c.requires.begins.fits.ready c.requires.act

pub returns-clause-fits : goal.returns-clause-fits
returns-clause-fits c =
    let slots = c.args.self.now.frame.registers.slots.items in
    fits_asked c.args.desk c.args.self.now c.args.table.now c.args.name c.args.kind c.in-Some.pointer c.requires.begins.fits c.requires.begins.rest
    c.requires.begins.none c.requires.begins.within
    c.requires.act (sym (c.inside.ensures ∙ ap (λ (k : ℕ). inside (slot_pointer slots k)) c.from-from.ensures) ∙ c.in-Some.is)
    (sym c.is_enabled.ensures ∙ c.if-not-is_enabled.false)

pub returns-in_default-clause-stepped : goal.returns-in_default-clause-stepped
returns-in_default-clause-stepped c =
    let d = c.args.desk in
    let t = c.args.self.now in
    let v = c.args.table.now in
    let r = c.requires in
    let slots = t.frame.registers.slots.items in
    let tell : ℕ → Answer → Said = λ n a. record { statement = n; answer = Some a; ended = None } in
    acts_as d t v r.begins (FromThis c.args.name c.args.kind) r.act None Rest _ _ _
    (this_none v d (frame_view t.frame) (task_at t.frame).statement (rest t.frame) c.args.name c.args.kind (found_inside slots c.args.name
    c.from-from.result c.inside.result (None) c.inside.ensures c.from-from.ensures c.in_default.is)) refl
    (ap (λ (s : Said). Quiet s) (c.tells.ensures ∙ ap (λ (n : ℕ). tell n c.outside-answer.result) c.statement-statement.ensures
    ∙ ap (tell (task_at t.frame).statement) (c.outside-answer.ensures ∙ ap outside (c.place.ensures ∙ ap (place_in slots) c.from-from.ensures))
    ∙ this_says v d (frame_view t.frame) (task_at t.frame).statement (rest t.frame) c.args.name c.args.kind None false (found_inside slots c.args.name
    c.from-from.result c.inside.result (None) c.inside.ensures c.from-from.ensures c.in_default.is) refl)) refl
    (c.take.ensures.frame_view ∙ this_went v d (frame_view t.frame) (task_at t.frame).statement (rest t.frame) c.args.name c.args.kind None false
    (found_inside slots c.args.name c.from-from.result c.inside.result (None) c.inside.ensures c.from-from.ensures c.in_default.is) refl) r.begins.rest

pub returns-in_default-clause-fits : goal.returns-in_default-clause-fits
returns-in_default-clause-fits c =
    let d = c.args.desk in
    let t = c.args.self.now in
    let v = c.args.table.now in
    let r = c.requires in
    let slots = t.frame.registers.slots.items in
    went_quiet d t v r.begins c.take.new.self (c.take.ensures.on d v r.begins.fits.holds)

pub returns-then-not-is_enabled-clause-stepped : goal.returns-then-not-is_enabled-clause-stepped
returns-then-not-is_enabled-clause-stepped c =
    let d = c.args.desk in
    let t = c.args.self.now in
    let v = c.args.table.now in
    let r = c.requires in
    let slots = t.frame.registers.slots.items in
    let p = c.in-Some.pointer in
    let bare = sym c.is_enabled.ensures ∙ c.if-not-is_enabled.true in
    let tell : ℕ → Answer → Said = λ n a. record { statement = n; answer = Some a; ended = None } in
    acts_as d t v r.begins (FromThis c.args.name c.args.kind) r.act None Rest _ _ _
    (this_not v d (frame_view t.frame) (task_at t.frame).statement (rest t.frame) c.args.name c.args.kind p (found_inside slots c.args.name
    c.from-from.result c.inside.result (Some p) c.inside.ensures c.from-from.ensures c.in-Some.is) bare) refl
    (ap (λ (s : Said). Quiet s) (c.tells-then-not-is_enabled.ensures
    ∙ ap (λ (n : ℕ). tell n (answer.Refused refused.NotEnabled)) c.statement-statement.ensures
    ∙ this_says v d (frame_view t.frame) (task_at t.frame).statement (rest t.frame) c.args.name c.args.kind (Some p) false (found_inside slots
    c.args.name c.from-from.result c.inside.result (Some p) c.inside.ensures c.from-from.ensures c.in-Some.is) bare)) refl
    (c.take-then-not-is_enabled.ensures.frame_view ∙ this_went v d (frame_view t.frame) (task_at t.frame).statement (rest t.frame) c.args.name c.args.kind
    (Some p) false (found_inside slots c.args.name c.from-from.result c.inside.result (Some p) c.inside.ensures c.from-from.ensures c.in-Some.is) bare)
    r.begins.rest

pub returns-then-not-is_enabled-clause-fits : goal.returns-then-not-is_enabled-clause-fits
returns-then-not-is_enabled-clause-fits c =
    let d = c.args.desk in
    let t = c.args.self.now in
    let v = c.args.table.now in
    let r = c.requires in
    let slots = t.frame.registers.slots.items in
    went_quiet d t v r.begins c.take-then-not-is_enabled.new.self (c.take-then-not-is_enabled.ensures.on d v r.begins.fits.holds)

pub returns-clause-stepped : goal.returns-clause-stepped
returns-clause-stepped c =
    let d = c.args.desk in
    let t = c.args.self.now in
    let v = c.args.table.now in
    let r = c.requires in
    let slots = t.frame.registers.slots.items in
    let p = c.in-Some.pointer in
    let enabled = sym c.is_enabled.ensures ∙ c.if-not-is_enabled.false in
    steps_as d t v r.begins (FromThis c.args.name c.args.kind) r.act
    (giving v d (frame_view t.frame) (task_at t.frame).statement (rest t.frame) c.args.name c.args.kind p (found_inside slots c.args.name
    c.from-from.result c.inside.result (Some p) c.inside.ensures c.from-from.ensures c.in-Some.is)) _ _ _
    (this_gives v d (frame_view t.frame) (task_at t.frame).statement (rest t.frame) c.args.name c.args.kind p (found_inside slots c.args.name
    c.from-from.result c.inside.result (Some p) c.inside.ensures c.from-from.ensures c.in-Some.is) enabled) refl
    (ap (λ (s : Said). Quiet s) (c.silent.ensures ∙ ap silent c.statement-statement.ensures)) refl refl refl
