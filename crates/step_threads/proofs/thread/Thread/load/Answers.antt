use Rattle.std.proofs.Common.{◌≡◌, true, false, is_some, None, sym, refl, ap, ◌∙◌, subst, inl}
use Rattle.std.proofs.Common.{eq-eqb, ne_eqb}
use Rattle.step_threads.proofs.Prelude.{Act, cell_of_name, cond-false, cond-true, Event}
use Rattle.step_threads.proofs.Prelude.{frame_view, IsSeenBy, Load, model_state, Quiet, Said}
use Rattle.step_threads.proofs.Prelude.{silent}
use Rattle.step_threads.proofs.Looks.{is_loaded}
use Rattle.step_threads.proofs.Acting.{can_act, load_looks, load_says, load_waits, load_went}
use Rattle.step_threads.proofs.Acting.{looked_on, looks_bare, looks_full, looks_spent, sees_cell}
use Rattle.step_threads.proofs.Acting.{stays_here}
use Rattle.step_threads.proofs.thread.Thread.load.Goals as goal

pub refuse-requires-clause-act : goal.refuse-requires-clause-act
refuse-requires-clause-act c = inl c.requires.act

pub returns-then-not-is_there-clause-stepped : goal.returns-then-not-is_there-clause-stepped
returns-then-not-is_there-clause-stepped c = c.refuse.ensures.stepped

pub returns-then-not-is_there-clause-fits : goal.returns-then-not-is_there-clause-fits
returns-then-not-is_there-clause-fits c = c.refuse.ensures.fits

pub look_to_load-found-requires-clause-can : goal.look_to_load-found-requires-clause-can
look_to_load-found-requires-clause-can c =
    let r = c.requires in can_act c.args.desk c.args.self.now c.args.table.now r.begins

pub returns-then-is_none-clause-stepped : goal.returns-then-is_none-clause-stepped
returns-then-is_none-clause-stepped c =
    let d = c.args.desk in
    let t = c.args.self.now in
    let v = c.args.table.now in
    let r = c.requires in
    let found = c.look_to_load-found.result in
    let look = c.look_to_load-found.ensures in
    let bare : is_some c.look_to_load-found.result.owned ≡ false = c.if-is_none.ensures in
    let there = sym c.is_there.ensures ∙ c.if-not-is_there.false in
    looks_bare d t v r.begins (Load c.args.cell) r.act
    (cell_of_name (model_state v) t.frame.registers.slots.items c.args.cell) None found
    (load_looks d t v r.begins c.args.cell found there look.found)
    (load_waits d t v r.begins c.args.cell found there look.found) _ _ _ bare
    (ap (λ (s : Said). Event s) (c.silent.ensures ∙ ap silent c.statement-statement.ensures
    ∙ load_says d t v r.begins c.args.cell there))
    (look.table ∙ cond-false (is_some c.look_to_load-found.result.owned) _ _ bare)
    (look.frame_view bare ∙ load_went d t v r.begins c.args.cell there) r.begins.rest

pub returns-then-is_none-clause-fits : goal.returns-then-is_none-clause-fits
returns-then-is_none-clause-fits c =
    let d = c.args.desk in
    let t = c.args.self.now in
    let v = c.args.table.now in
    let r = c.requires in
    let look = c.look_to_load-found.ensures in
    let bare : is_some c.look_to_load-found.result.owned ≡ false = c.if-is_none.ensures in
    looked_on d t v r.begins (cell_of_name (model_state v) t.frame.registers.slots.items c.args.cell) None
    c.look_to_load-found.result c.look_to_load-found.new.self c.look_to_load-found.new.table c.assert_invariant.ensures
    (look.table ∙ cond-false (is_some c.look_to_load-found.result.owned) _ _ bare) (look.on bare)

pub returns-then-found-eq-CELL_FUNDS-clause-stepped : goal.returns-then-found-eq-CELL_FUNDS-clause-stepped
returns-then-found-eq-CELL_FUNDS-clause-stepped c =
    let d = c.args.desk in
    let t = c.args.self.now in
    let v = c.args.table.now in
    let r = c.requires in
    let found = c.look_to_load-found.result in
    let look = c.look_to_load-found.ensures in
    let full : is_some c.look_to_load-found.result.owned ≡ true = c.if-is_none.ensures in
    let there = sym c.is_there.ensures ∙ c.if-not-is_there.false in
    looks_spent d t v r.begins (Load c.args.cell) r.act
    (cell_of_name (model_state v) t.frame.registers.slots.items c.args.cell) None found
    (load_looks d t v r.begins c.args.cell found there look.found)
    (load_waits d t v r.begins c.args.cell found there look.found) _ _ full
    (eq-eqb found.taken 256 c.if-found-eq-CELL_FUNDS.true)
    (look.table ∙ cond-true (is_some c.look_to_load-found.result.owned) _ _ full) (ap frame_view (look.stays full)) r.begins.rest

pub returns-then-found-eq-CELL_FUNDS-clause-fits : goal.returns-then-found-eq-CELL_FUNDS-clause-fits
returns-then-found-eq-CELL_FUNDS-clause-fits c =
    let r = c.requires in
    let look = c.look_to_load-found.ensures in
    let full : is_some c.look_to_load-found.result.owned ≡ true = c.if-is_none.ensures in
    stays_here c.args.desk c.args.self.now c.args.table.now r.begins _ _ (look.stays full)
    (look.table ∙ cond-true (is_some c.look_to_load-found.result.owned) _ _ full)

pub returns-clause-stepped : goal.returns-clause-stepped
returns-clause-stepped c =
    let d = c.args.desk in
    let t = c.args.self.now in
    let v = c.args.table.now in
    let r = c.requires in
    let found = c.look_to_load-found.result in
    let look = c.look_to_load-found.ensures in
    let full : is_some c.look_to_load-found.result.owned ≡ true = c.if-is_none.ensures in
    let there = sym c.is_there.ensures ∙ c.if-not-is_there.false in
    looks_full d t v r.begins (Load c.args.cell) r.act
    (cell_of_name (model_state v) t.frame.registers.slots.items c.args.cell) None found
    (load_looks d t v r.begins c.args.cell found there look.found)
    (load_waits d t v r.begins c.args.cell found there look.found) _ _ _ full
    (ne_eqb found.taken 256 c.if-found-eq-CELL_FUNDS.false)
    (ap (λ (s : Said). Quiet s) (c.silent-2.ensures ∙ ap silent c.statement-statement.ensures))
    (look.table ∙ cond-true (is_some c.look_to_load-found.result.owned) _ _ full) (ap frame_view (look.stays full)) refl

pub returns-clause-fits : goal.returns-clause-fits
returns-clause-fits c =
    let t = c.args.self.now in
    let r = c.requires in
    let found = c.look_to_load-found.result in
    let look = c.look_to_load-found.ensures in
    let full : is_some c.look_to_load-found.result.owned ≡ true = c.if-is_none.ensures in
    let there = sym c.is_there.ensures ∙ c.if-not-is_there.false in
    let few = ne_eqb found.taken 256 c.if-found-eq-CELL_FUNDS.false in
    sees_cell c.args.desk t c.args.table.now r.begins found _ _ (look.stays full)
    (look.table ∙ cond-true (is_some c.look_to_load-found.result.owned) _ _ full) look.valid
    (subst (λ (a : Act). IsSeenBy t.frame.registers.slots.items found a) (sym r.act) (there, is_loaded found look.few full few))
