use Rattle.std.proofs.Common.{ℕ, cond, drop, set, is_some, sym, ap, ◌∙◌, subst, arith}
use Rattle.step_threads.proofs.Prelude.{Event, FitsThread, GhostState, gives_back, HasStepped}
use Rattle.step_threads.proofs.Prelude.{held_in, HoldsBag, Kind, Member, model_state, Said}
use Rattle.step_threads.proofs.Prelude.{slot_of, slot_pointer}
use Rattle.control_word.specs.declared.packed.cell.CellWord.{CellWord}
use Rattle.step_table.proofs.tables.Members.{member_kind}
use Rattle.step_table.proofs.tables.Swaps.{ending_cell}
use Rattle.step_threads.proofs.Looks.{seen_few}
use Rattle.step_threads.proofs.Emptying.{clearing_here, fits_emptied, idle_clearing, is_clearing}
use Rattle.step_threads.proofs.Emptying.{none_full, stepped_emptied}
use Rattle.step_threads.proofs.holding.Ends.{ending_here, first_is}
use Rattle.step_threads.proofs.thread.Thread.empty_on.Goals as goal

pub take_out-found-requires-clause-idle : goal.take_out-found-requires-clause-idle
take_out-found-requires-clause-idle c = idle_clearing c.args.desk c.args.self.now c.args.table.now c.requires.fits c.requires.pending_call

pub take_out-found-requires-clause-ending : goal.take_out-found-requires-clause-ending
take_out-found-requires-clause-ending c =
    (ending_here c.args.desk c.args.table.now c.args.self.now.frame.endings.list c.in-Some.ending c.requires.fits.endings.all
    (sym c.first.ensures ∙ c.in-Some.is)).ending

pub take_out-found-requires-clause-member : goal.take_out-found-requires-clause-member
take_out-found-requires-clause-member c =
    let t = c.args.self.now in
    (clearing_here t.frame.registers.slots.items t.frame.endings.list c.in-Some.ending
    (is_clearing c.args.desk t c.args.table.now c.requires.fits c.requires.pending_call) (sym c.first.ensures ∙ c.in-Some.is)).0

pub take_out-found-requires-clause-inside : goal.take_out-found-requires-clause-inside
take_out-found-requires-clause-inside c =
    let some = c.requires.fits.ready.some in let hand = c.hand-hand.ensures in omega (arith, some, hand)

pub take_out-found-requires-clause-empty : goal.take_out-found-requires-clause-empty
take_out-found-requires-clause-empty c =
    let t = c.args.self.now in
    let slots = t.frame.registers.slots.items in
    ap (slot_pointer slots) c.hand-hand.ensures
    ∙ none_full _ (clearing_here slots t.frame.endings.list c.in-Some.ending
    (is_clearing c.args.desk t c.args.table.now c.requires.fits c.requires.pending_call) (sym c.first.ensures ∙ c.in-Some.is)).1

pub advance-requires-clause-first : goal.advance-requires-clause-first
advance-requires-clause-first c = sym c.first.ensures ∙ c.in-Some.is

pub advance-requires-clause-inside : goal.advance-requires-clause-inside
advance-requires-clause-inside c =
    let t = c.args.self.now in
    (clearing_here t.frame.registers.slots.items t.frame.endings.list c.in-Some.ending
    (is_clearing c.args.desk t c.args.table.now c.requires.fits c.requires.pending_call) (sym c.first.ensures ∙ c.in-Some.is)).0

pub returns-clause-fits : goal.returns-clause-fits
returns-clause-fits c =
    let t = c.args.self.now in
    let v = c.args.table.now in
    let d = c.args.desk in
    let e = c.in-Some.ending in
    let slots = t.frame.registers.slots.items in
    let first = sym c.first.ensures ∙ c.in-Some.is in
    let x = c.take_out-found.result in
    let h = c.take_out-found.new.self in
    subst (λ (u : GhostState). FitsThread d
    (record { frame = record t.frame { registers = h; endings = c.advance.new.self }; stock = t.stock; pending_call = c.returning-self.result }) u)
    (sym c.take_out-found.ensures.table)
    (fits_emptied d t v e (drop 1 t.frame.endings.list) h c.advance.new.self c.returning-self.result e.statement x c.assert_invariant.ensures
    c.requires.fits c.requires.pending_call
    (first_is t.frame.endings.list e first) (ending_here d v t.frame.endings.list e c.requires.fits.endings.all first)
    c.take_out-found.ensures.found
    (c.take_out-found.ensures.slots
    ∙ ap (λ (i : ℕ). cond (is_some x.owned) (set slots i (slot_of (model_state v) (held_in (model_state v) (Member e.block e.stage)))) slots)
    c.hand-hand.ensures)
    (subst (λ (u : GhostState). HoldsBag d h.slots.items u) c.take_out-found.ensures.table c.take_out-found.ensures.holds)
    c.advance.ensures.list c.advance.ensures.room
    (c.returning-self.ensures
    ∙ ap (λ (k : Kind). gives_back k e.statement x x.owned) (c.kind_in-kind.ensures ∙ member_kind v e.stage)))

pub returns-clause-stepped : goal.returns-clause-stepped
returns-clause-stepped c =
    let t = c.args.self.now in
    let v = c.args.table.now in
    let d = c.args.desk in
    let e = c.in-Some.ending in
    let slots = t.frame.registers.slots.items in
    let first = sym c.first.ensures ∙ c.in-Some.is in
    let x = c.take_out-found.result in
    let h = c.take_out-found.new.self in
    subst (λ (y : Said). HasStepped d t v (Event y)
    (record { frame = record t.frame { registers = h; endings = c.advance.new.self }; stock = t.stock; pending_call = c.returning-self.result })
    c.take_out-found.new.table) (sym c.silent.ensures)
    (stepped_emptied d t v c.take_out-found.new.table e (drop 1 t.frame.endings.list) h c.advance.new.self c.returning-self.result x c.requires.pending_call
    (first_is t.frame.endings.list e first) c.take_out-found.ensures.found
    (c.take_out-found.ensures.slots
    ∙ ap (λ (i : ℕ). cond (is_some x.owned) (set slots i (slot_of (model_state v) (held_in (model_state v) (Member e.block e.stage)))) slots)
    c.hand-hand.ensures)
    c.take_out-found.ensures.table c.advance.ensures.list
    (c.returning-self.ensures
    ∙ ap (λ (k : Kind). gives_back k e.statement x x.owned) (c.kind_in-kind.ensures ∙ member_kind v e.stage)))

pub returning-self-requires : goal.returning-self-requires
returning-self-requires c =
    let t = c.args.self.now in
    let v = c.args.table.now in
    let d = c.args.desk in
    let e = c.in-Some.ending in
    let first = sym c.first.ensures ∙ c.in-Some.is in
    let ends = ending_here d v t.frame.endings.list e c.requires.fits.endings.all first in
    let few = (clearing_here t.frame.registers.slots.items t.frame.endings.list e (is_clearing d t v c.requires.fits c.requires.pending_call) first).0 in
    let is = ending_cell v d e.block e.stage ends.ending few in
    let s = seen_few v d (Member e.block e.stage) c.assert_invariant.ensures c.requires.fits.seat is in
    let x = ap (λ (y : CellWord). y.taken) c.take_out-found.ensures.found in omega (arith, s, x)
