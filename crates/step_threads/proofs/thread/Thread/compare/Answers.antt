use Rattle.std.proofs.Common.{◌≡◌, Bool, true, false, ◌||◌, is_some, Some, None, sym, refl, ap}
use Rattle.std.proofs.Common.{◌∙◌, subst, inl, inr, eq-eqb, ne_eqb}
use Rattle.step_threads.proofs.Prelude.{Act, as_word, cell_of_name, Compare, compared_in}
use Rattle.step_threads.proofs.Prelude.{comparing, cond-false, cond-true, Event, frame_view}
use Rattle.step_threads.proofs.Prelude.{IsSeenBy, model_state, Quiet, Said, same_value, Saw}
use Rattle.step_threads.proofs.Prelude.{silent, slot_value, within}
use Rattle.step_threads.proofs.Looks.{is_loaded}
use Rattle.step_threads.proofs.Acting.{can_act, differ_looks, differ_says, differ_waits}
use Rattle.step_threads.proofs.Acting.{differ_went, looked_on, looks_bare, compare_goes}
use Rattle.step_threads.proofs.Acting.{compare_sees, looks_full, looks_spent, sees_cell}
use Rattle.step_threads.proofs.Acting.{stays_here, steps_as}
use Rattle.step_threads.proofs.CompareSteps.{answers}
use Rattle.step_threads.proofs.Going.{or_right}
use Rattle.step_threads.proofs.thread.Thread.compare.Goals as goal
use Rattle.step_threads.proofs.thread.Thread.compare.Goals.{then-not-is_same_value+else-is_none+else-found-eq-CELL_FUNDS}
use Rattle.step_threads.proofs.thread.Thread.compare.Goals.{else-not-is_same_value}

pub look_to_compare-found-requires-clause-can : goal.look_to_compare-found-requires-clause-can
look_to_compare-found-requires-clause-can c =
    let r = c.requires in can_act c.args.desk c.args.self.now c.args.table.now r.begins

pub returns-then-is_none-clause-stepped : goal.returns-then-is_none-clause-stepped
returns-then-is_none-clause-stepped c =
    let d = c.args.desk in
    let t = c.args.self.now in
    let v = c.args.table.now in
    let r = c.requires in
    let k = c.args.name in
    let cell = c.args.cell in
    let slots = t.frame.registers.slots.items in
    let x = c.look_to_compare-found.result in
    let look = c.look_to_compare-found.ensures in
    let bare : is_some x.owned ≡ false = c.if-is_none.ensures in
    let differs : same_value x (as_word (slot_value slots k)) ≡ false =
    ap (same_value x) (sym c.word-expected.ensures) ∙ sym c.is_same_value.ensures ∙ c.if-not-is_same_value.true in
    let neither : (is_some x.owned || same_value x (as_word (slot_value slots k))) ≡ false =
    ap (λ (b : Bool). b || same_value x (as_word (slot_value slots k))) bare ∙ differs in
    looks_bare d t v r.begins (Compare k cell c.args.weak) r.act (cell_of_name (model_state v) slots cell)
    (Some (compared_in slots (comparing slots k c.args.weak))) x
    (differ_looks d t v r.begins k cell c.args.weak r.act x look.found differs)
    (differ_waits d t v r.begins k cell c.args.weak r.act x look.found differs) _ _ _ bare
    (ap (λ (s : Said). Event s) (c.compared.ensures ∙ ap (λ n. answers n false) c.statement-statement.ensures
    ∙ differ_says d t v r.begins k cell c.args.weak r.act x look.found differs c.assert_invariant.ensures))
    (look.table ∙ cond-false (is_some x.owned || same_value x (as_word (slot_value slots k))) _ _ neither)
    (look.frame_view neither ∙ differ_went d t v r.begins k cell c.args.weak r.act x look.found differs c.assert_invariant.ensures) r.begins.rest

pub returns-then-is_none-clause-fits : goal.returns-then-is_none-clause-fits
returns-then-is_none-clause-fits c =
    let t = c.args.self.now in
    let v = c.args.table.now in
    let r = c.requires in
    let k = c.args.name in
    let slots = t.frame.registers.slots.items in
    let x = c.look_to_compare-found.result in
    let look = c.look_to_compare-found.ensures in
    let bare : is_some x.owned ≡ false = c.if-is_none.ensures in
    let differs : same_value x (as_word (slot_value slots k)) ≡ false =
    ap (same_value x) (sym c.word-expected.ensures) ∙ sym c.is_same_value.ensures ∙ c.if-not-is_same_value.true in
    let neither : (is_some x.owned || same_value x (as_word (slot_value slots k))) ≡ false =
    ap (λ (b : Bool). b || same_value x (as_word (slot_value slots k))) bare ∙ differs in
    looked_on c.args.desk t v r.begins (cell_of_name (model_state v) slots c.args.cell)
    (Some (compared_in slots (comparing slots k c.args.weak))) x c.look_to_compare-found.new.self c.look_to_compare-found.new.table c.assert_invariant.ensures
    (look.table ∙ cond-false (is_some x.owned || same_value x (as_word (slot_value slots k))) _ _ neither) (look.on neither)

pub returns-then-found-eq-CELL_FUNDS-clause-stepped : goal.returns-then-found-eq-CELL_FUNDS-clause-stepped
returns-then-found-eq-CELL_FUNDS-clause-stepped c =
    let d = c.args.desk in
    let t = c.args.self.now in
    let v = c.args.table.now in
    let r = c.requires in
    let k = c.args.name in
    let cell = c.args.cell in
    let slots = t.frame.registers.slots.items in
    let x = c.look_to_compare-found.result in
    let look = c.look_to_compare-found.ensures in
    let full : is_some x.owned ≡ true = c.if-is_none.ensures in
    let differs : same_value x (as_word (slot_value slots k)) ≡ false =
    ap (same_value x) (sym c.word-expected.ensures) ∙ sym c.is_same_value.ensures ∙ c.if-not-is_same_value.true in
    let either : (is_some x.owned || same_value x (as_word (slot_value slots k))) ≡ true =
    ap (λ (b : Bool). b || same_value x (as_word (slot_value slots k))) full in
    looks_spent d t v r.begins (Compare k cell c.args.weak) r.act (cell_of_name (model_state v) slots cell)
    (Some (compared_in slots (comparing slots k c.args.weak))) x
    (differ_looks d t v r.begins k cell c.args.weak r.act x look.found differs)
    (differ_waits d t v r.begins k cell c.args.weak r.act x look.found differs) _ _ full
    (eq-eqb x.taken 256 c.if-found-eq-CELL_FUNDS.true)
    (look.table ∙ cond-true (is_some x.owned || same_value x (as_word (slot_value slots k))) _ _ either) (ap frame_view (look.stays either)) r.begins.rest

pub returns-then-found-eq-CELL_FUNDS-clause-fits : goal.returns-then-found-eq-CELL_FUNDS-clause-fits
returns-then-found-eq-CELL_FUNDS-clause-fits c =
    let t = c.args.self.now in
    let r = c.requires in
    let slots = t.frame.registers.slots.items in
    let x = c.look_to_compare-found.result in
    let look = c.look_to_compare-found.ensures in
    let full : is_some x.owned ≡ true = c.if-is_none.ensures in
    let either : (is_some x.owned || same_value x (as_word (slot_value slots c.args.name))) ≡ true =
    ap (λ (b : Bool). b || same_value x (as_word (slot_value slots c.args.name))) full in
    stays_here c.args.desk t c.args.table.now r.begins _ _ (look.stays either)
    (look.table ∙ cond-true (is_some x.owned || same_value x (as_word (slot_value slots c.args.name))) _ _ either)

pub returns-clause-stepped : goal.returns-clause-stepped
returns-clause-stepped c =
    let d = c.args.desk in
    let t = c.args.self.now in
    let v = c.args.table.now in
    let r = c.requires in
    let k = c.args.name in
    let cell = c.args.cell in
    let slots = t.frame.registers.slots.items in
    let x = c.look_to_compare-found.result in
    let look = c.look_to_compare-found.ensures in
    let same = same_value x (as_word (slot_value slots k)) in
    let says = ap (λ (s : Said). Quiet s) (c.silent.ensures ∙ ap silent c.statement-statement.ensures) in
    let at = cell_of_name (model_state v) slots cell in
    let y = compared_in slots (comparing slots k c.args.weak) in
    elim c.if-not-is_same_value.branch [
      | then-not-is_same_value+else-is_none+else-found-eq-CELL_FUNDS w ↦
          let full : is_some x.owned ≡ true = w.if-is_none.ensures in
          let differs : same ≡ false =
          ap (same_value x) (sym c.word-expected.ensures) ∙ sym c.is_same_value.ensures ∙ w.if-not-is_same_value.true in
          let either : (is_some x.owned || same) ≡ true = ap (λ (b : Bool). b || same) full in
          looks_full d t v r.begins (Compare k cell c.args.weak) r.act at (Some y) x
          (differ_looks d t v r.begins k cell c.args.weak r.act x look.found differs)
          (differ_waits d t v r.begins k cell c.args.weak r.act x look.found differs) _ _ _ full
          (ne_eqb x.taken 256 w.if-found-eq-CELL_FUNDS.false) says
          (look.table ∙ cond-true (is_some x.owned || same) _ _ either) (ap frame_view (look.stays either)) refl
      | else-not-is_same_value w ↦
          let alike : same ≡ true =
          ap (same_value x) (sym c.word-expected.ensures) ∙ sym c.is_same_value.ensures ∙ w.if-not-is_same_value.false in
          let either : (is_some x.owned || same) ≡ true = or_right (is_some x.owned) same alike in
          steps_as d t v r.begins (Compare k cell c.args.weak) r.act (within (frame_view t.frame) _ None (Saw x)) _ _ _
          (compare_sees d t v r.begins k cell c.args.weak r.act x look.found alike)
          (compare_goes d t v r.begins k cell c.args.weak r.act x look.found alike) says
          (look.table ∙ cond-true (is_some x.owned || same) _ _ either) (ap frame_view (look.stays either)) refl
    ]

pub returns-clause-fits : goal.returns-clause-fits
returns-clause-fits c =
    let t = c.args.self.now in
    let v = c.args.table.now in
    let r = c.requires in
    let k = c.args.name in
    let slots = t.frame.registers.slots.items in
    let x = c.look_to_compare-found.result in
    let look = c.look_to_compare-found.ensures in
    let same = same_value x (as_word (slot_value slots k)) in
    elim c.if-not-is_same_value.branch [
      | then-not-is_same_value+else-is_none+else-found-eq-CELL_FUNDS w ↦
          let full : is_some x.owned ≡ true = w.if-is_none.ensures in
          let either : (is_some x.owned || same) ≡ true = ap (λ (b : Bool). b || same) full in
          let few = ne_eqb x.taken 256 w.if-found-eq-CELL_FUNDS.false in
          sees_cell c.args.desk t v r.begins x _ _ (look.stays either)
          (look.table ∙ cond-true (is_some x.owned || same) _ _ either) look.valid
          (subst (λ (a : Act). IsSeenBy slots x a) (sym r.act) (inr (is_loaded x look.few full few)))
      | else-not-is_same_value w ↦
          let alike : same ≡ true =
          ap (same_value x) (sym c.word-expected.ensures) ∙ sym c.is_same_value.ensures ∙ w.if-not-is_same_value.false in
          let either : (is_some x.owned || same) ≡ true = or_right (is_some x.owned) same alike in
          sees_cell c.args.desk t v r.begins x _ _ (look.stays either)
          (look.table ∙ cond-true (is_some x.owned || same) _ _ either) look.valid
          (subst (λ (a : Act). IsSeenBy slots x a) (sym r.act) (inl alike))
    ]
