use Rattle.std.proofs.Common.{◌≡◌, Bool, true, false, cond, ◌||◌, is_some, Some, sym, refl, ap}
use Rattle.std.proofs.Common.{◌∙◌, subst}
use Rattle.step_threads.proofs.Prelude
use Prelude.{as_word, CanCompare, cell_of_name, Compare, compared_in, Comparing, cond-false}
use Prelude.{differed, false≢true, frame_settled, ghost_after_step, hand, HasCell, held_in, IsIn}
use Prelude.{IsOpenTo, IsReady, kind_in_state, Look, model_state, OnCell, other, Registers, rest}
use Prelude.{same_value, seen, Site, slot_of, slot_value, Slots}
use Rattle.step_threads.proofs.CellNames.{cell_open, cell_named}
use Rattle.step_threads.proofs.Compares.{can_compare, may_compare}
use Rattle.step_threads.proofs.Going.{comes, differs_ready, named_slot, or_right}
use Rattle.step_threads.proofs.frame.Frame.look_to_compare.Goals.{else-is_none-via-then-is_none+else-not-is_same_value}
use Rattle.step_threads.proofs.frame.Frame.look_to_compare.Goals.{else-is_none-via-else-is_none}
use Rattle.step_threads.proofs.frame.Frame.look_to_compare.Goals as goal

pub look_to_compare-found-requires-clause-open : goal.look_to_compare-found-requires-clause-open
look_to_compare-found-requires-clause-open c =
    let v = c.args.table.now in
    let t = c.args.self.now in
    let can = c.requires.can in
    let h : IsIn v.extent.shape c.args.cell = subst (HasCell v.extent.shape) c.requires.act can.cell in
    let there = (may_compare t c.args.name c.args.cell c.args.weak can.within can.ready c.requires.act can.still).0 in
    subst (λ (x : Site). IsOpenTo v c.args.desk x) (sym c.cell-cell.ensures) (cell_open v c.args.desk t.registers.slots.items c.args.cell h can.holds there)

pub look_to_compare-found-requires-clause-compare : goal.look_to_compare-found-requires-clause-compare
look_to_compare-found-requires-clause-compare c =
    let v = c.args.table.now in
    let t = c.args.self.now in
    let slots = t.registers.slots.items in
    let can = c.requires.can in
    subst (λ (x : Site). CanCompare (kind_in_state (model_state v) x) slots c.comparing-comparing.result) (sym c.cell-cell.ensures)
    (subst (λ (y : Comparing). CanCompare (kind_in_state (model_state v) (cell_of_name (model_state v) slots c.args.cell)) slots y)
    (sym c.comparing-comparing.ensures)
    (can_compare t c.args.name c.args.cell c.args.weak can.within can.ready c.requires.act v can.still can.cell))

pub returns-else-is_none-clause-stays : goal.returns-else-is_none-clause-stays
returns-else-is_none-clause-stays c = λ e.
    let t = c.args.self.now in
    let x = c.look_to_compare-found.result in
    let l = t.registers.slots.items in
    ap (λ (h : Registers). record { tasks = t.tasks; at = t.at; registers = h; taken = t.taken; endings = t.endings })
    (c.look_to_compare-found.ensures.stays (ap (λ (y : Comparing). is_some x.owned || same_value x (as_word (slot_value l y.expected)))
    c.comparing-comparing.ensures ∙ e))

pub cell-cell-requires-clause-named : goal.cell-cell-requires-clause-named
cell-cell-requires-clause-named c =
    let t = c.args.self.now in
    let can = c.requires.can in
    cell_named t.registers.slots.items c.args.cell
    (comes t (Compare c.args.name c.args.cell c.args.weak) can.within can.ready c.requires.act).1

pub cell-cell-requires-clause-there : goal.cell-cell-requires-clause-there
cell-cell-requires-clause-there c =
    let can = c.requires.can in
    (may_compare c.args.self.now c.args.name c.args.cell c.args.weak can.within can.ready c.requires.act can.still).0

pub word-expected-requires : goal.word-expected-requires
word-expected-requires c =
    let t = c.args.self.now in
    let can = c.requires.can in
    named_slot t.registers.slots.items c.args.name c.args.name
    (comes t (Compare c.args.name c.args.cell c.args.weak) can.within can.ready c.requires.act).0 refl

pub returns-then-not-is_same_value-clause-found : goal.returns-then-not-is_same_value-clause-found
returns-then-not-is_same_value-clause-found c = c.look_to_compare-found.ensures.found ∙ ap (seen c.args.table.now) c.cell-cell.ensures

pub returns-then-not-is_same_value-clause-table : goal.returns-then-not-is_same_value-clause-table
returns-then-not-is_same_value-clause-table c =
    let v = c.args.table.now in
    let t = c.args.self.now in
    let slots = t.registers.slots.items in
    let at = cell_of_name (model_state v) slots c.args.cell in
    c.look_to_compare-found.ensures.table
    ∙ ap (λ (y : Site). cond (is_some c.look_to_compare-found.result.owned || same_value c.look_to_compare-found.result (as_word (slot_value slots
    c.comparing-comparing.result.expected))) v
    (ghost_after_step v c.args.desk (OnCell (Look y c.look_to_compare-found.result (Some (compared_in slots c.comparing-comparing.result))))))
    c.cell-cell.ensures
    ∙ ap (λ (y : Comparing). cond (is_some c.look_to_compare-found.result.owned || same_value c.look_to_compare-found.result (as_word (slot_value
    slots y.expected))) v
    (ghost_after_step v c.args.desk (OnCell (Look at c.look_to_compare-found.result (Some (compared_in slots y)))))) c.comparing-comparing.ensures

pub returns-then-not-is_same_value-clause-on : goal.returns-then-not-is_same_value-clause-on
returns-then-not-is_same_value-clause-on c = λ q. c.take.ensures.on c.args.desk c.look_to_compare-found.new.table c.look_to_compare-found.ensures.holds

pub returns-else-is_none-clause-found : goal.returns-else-is_none-clause-found
returns-else-is_none-clause-found c = c.look_to_compare-found.ensures.found ∙ ap (seen c.args.table.now) c.cell-cell.ensures

pub returns-else-is_none-clause-table : goal.returns-else-is_none-clause-table
returns-else-is_none-clause-table c =
    let v = c.args.table.now in
    let t = c.args.self.now in
    let slots = t.registers.slots.items in
    let at = cell_of_name (model_state v) slots c.args.cell in
    c.look_to_compare-found.ensures.table
    ∙ ap (λ (y : Site). cond (is_some c.look_to_compare-found.result.owned || same_value c.look_to_compare-found.result (as_word (slot_value slots
    c.comparing-comparing.result.expected))) v
    (ghost_after_step v c.args.desk (OnCell (Look y c.look_to_compare-found.result (Some (compared_in slots c.comparing-comparing.result))))))
    c.cell-cell.ensures
    ∙ ap (λ (y : Comparing). cond (is_some c.look_to_compare-found.result.owned || same_value c.look_to_compare-found.result (as_word (slot_value
    slots y.expected))) v
    (ghost_after_step v c.args.desk (OnCell (Look at c.look_to_compare-found.result (Some (compared_in slots y)))))) c.comparing-comparing.ensures

pub take-requires-clause-ready : goal.take-requires-clause-ready
take-requires-clause-ready c =
    let v = c.args.table.now in
    let t = c.args.self.now in
    let slots = t.registers.slots.items in
    let bare : is_some c.look_to_compare-found.result.owned ≡ false = c.if-is_none.ensures in
    let differs : same_value c.look_to_compare-found.result c.word-expected.result ≡ false = sym c.is_same_value.ensures ∙ c.if-not-is_same_value.true in
    let wanted : same_value c.look_to_compare-found.result (as_word (slot_value slots c.args.name)) ≡ false = ap (same_value
    c.look_to_compare-found.result) (sym c.word-expected.ensures) ∙ differs in
    let neither : (is_some c.look_to_compare-found.result.owned || same_value c.look_to_compare-found.result (as_word (slot_value slots
    c.args.name))) ≡ false = ap (λ (b : Bool). b || same_value c.look_to_compare-found.result (as_word (slot_value slots c.args.name))) bare ∙ wanted in
    let s = model_state v in
    let x = slot_of s (held_in s c.cell-cell.result) in
    let e = c.look_to_compare-found.ensures.slots
    ∙ ap (λ (y : Comparing). cond (is_some c.look_to_compare-found.result.owned || same_value c.look_to_compare-found.result (as_word (slot_value
    slots y.expected))) slots (differed y.new y.other slots x))
    c.comparing-comparing.ensures
    ∙ cond-false (is_some c.look_to_compare-found.result.owned || same_value c.look_to_compare-found.result (as_word (slot_value slots c.args.name)))
    _ _ neither
    ∙ ap (λ (y : Site). differed (hand slots) (other slots) slots (slot_of s (held_in s y))) c.cell-cell.ensures in
    subst (λ (l : Slots). IsReady l true t.endings.list (rest t)) (sym e)
    (differs_ready t c.args.name c.args.cell c.args.weak _ c.requires.can.within c.requires.can.ready c.requires.act)

pub returns-then-not-is_same_value-clause-stays : goal.returns-then-not-is_same_value-clause-stays
returns-then-not-is_same_value-clause-stays c =
    λ q.
    let slots = c.args.self.now.registers.slots.items in
    let bare : is_some c.look_to_compare-found.result.owned ≡ false = c.if-is_none.ensures in
    let differs : same_value c.look_to_compare-found.result c.word-expected.result ≡ false = sym c.is_same_value.ensures ∙ c.if-not-is_same_value.true in
    let wanted : same_value c.look_to_compare-found.result (as_word (slot_value slots c.args.name)) ≡ false = ap (same_value
    c.look_to_compare-found.result) (sym c.word-expected.ensures) ∙ differs in
    let neither : (is_some c.look_to_compare-found.result.owned || same_value c.look_to_compare-found.result (as_word (slot_value slots
    c.args.name))) ≡ false = ap (λ (b : Bool). b || same_value c.look_to_compare-found.result (as_word (slot_value slots c.args.name))) bare ∙ wanted in
    absurd (false≢true (sym neither ∙ q))

pub returns-then-not-is_same_value-clause-frame_view : goal.returns-then-not-is_same_value-clause-frame_view
returns-then-not-is_same_value-clause-frame_view c =
    λ q.
    let v = c.args.table.now in
    let t = c.args.self.now in
    let slots = t.registers.slots.items in
    let bare : is_some c.look_to_compare-found.result.owned ≡ false = c.if-is_none.ensures in
    let differs : same_value c.look_to_compare-found.result c.word-expected.result ≡ false = sym c.is_same_value.ensures ∙ c.if-not-is_same_value.true in
    let wanted : same_value c.look_to_compare-found.result (as_word (slot_value slots c.args.name)) ≡ false = ap (same_value
    c.look_to_compare-found.result) (sym c.word-expected.ensures) ∙ differs in
    let neither : (is_some c.look_to_compare-found.result.owned || same_value c.look_to_compare-found.result (as_word (slot_value slots
    c.args.name))) ≡ false = ap (λ (b : Bool). b || same_value c.look_to_compare-found.result (as_word (slot_value slots c.args.name))) bare ∙ wanted in
    let s = model_state v in
    let x = slot_of s (held_in s c.cell-cell.result) in
    let e = c.look_to_compare-found.ensures.slots
    ∙ ap (λ (y : Comparing). cond (is_some c.look_to_compare-found.result.owned || same_value c.look_to_compare-found.result (as_word (slot_value
    slots y.expected))) slots (differed y.new y.other slots x))
    c.comparing-comparing.ensures
    ∙ cond-false (is_some c.look_to_compare-found.result.owned || same_value c.look_to_compare-found.result (as_word (slot_value slots c.args.name)))
    _ _ neither
    ∙ ap (λ (y : Site). differed (hand slots) (other slots) slots (slot_of s (held_in s y))) c.cell-cell.ensures in
    c.take.ensures.frame_view ∙ ap (λ (l : Slots). frame_settled l true t.endings.list (rest t)) e

pub returns-else-is_none-clause-frame_view : goal.returns-else-is_none-clause-frame_view
returns-else-is_none-clause-frame_view c =
    λ q.
    let slots = c.args.self.now.registers.slots.items in
    let found = c.look_to_compare-found.result in
    let same = same_value found (as_word (slot_value slots c.args.name)) in
    let either : (is_some found.owned || same) ≡ true =
    elim c.else-is_none.branch [
      | else-is_none-via-then-is_none+else-not-is_same_value w ↦ or_right (is_some found.owned) same
          (ap (same_value found) (sym c.word-expected.ensures) ∙ sym w.is_same_value.ensures ∙ w.if-not-is_same_value.false)
      | else-is_none-via-else-is_none w ↦ let full : is_some found.owned ≡ true = w.if-is_none.ensures in ap (λ (b : Bool). b || same) full
    ] in
    absurd (false≢true (sym q ∙ either))

pub returns-else-is_none-clause-on : goal.returns-else-is_none-clause-on
returns-else-is_none-clause-on c =
    λ q.
    let slots = c.args.self.now.registers.slots.items in
    let found = c.look_to_compare-found.result in
    let same = same_value found (as_word (slot_value slots c.args.name)) in
    let either : (is_some found.owned || same) ≡ true =
    elim c.else-is_none.branch [
      | else-is_none-via-then-is_none+else-not-is_same_value w ↦ or_right (is_some found.owned) same
          (ap (same_value found) (sym c.word-expected.ensures) ∙ sym w.is_same_value.ensures ∙ w.if-not-is_same_value.false)
      | else-is_none-via-else-is_none w ↦ let full : is_some found.owned ≡ true = w.if-is_none.ensures in ap (λ (b : Bool). b || same) full
    ] in
    absurd (false≢true (sym q ∙ either))
