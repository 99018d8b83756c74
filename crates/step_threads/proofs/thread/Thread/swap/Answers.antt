use Rattle.std.proofs.Common.{◌≡◌, Bool, true, false, cond, ◌&&◌, sym, refl, ap, ◌∙◌, subst}
use Rattle.step_threads.proofs.Prelude.{as_word, came, Event, FitsThread, frame_settled}
use Rattle.step_threads.proofs.Prelude.{GhostState, gives_back, hand, HasGoneOn, is_of, Kind}
use Rattle.step_threads.proofs.Prelude.{kind_at, may_go, model_state, other, rest, Said, silent}
use Rattle.step_threads.proofs.Prelude.{slot_value, slots_swapped, Swap, task_at}
use Rattle.step_threads.proofs.StoreFits.{cell_of_swap, fits_swapped, going_is}
use Rattle.step_threads.proofs.StoreSteps.{swapped_here}
use Rattle.step_threads.proofs.thread.Thread.swap.Goals as goal

pub returns-clause-fits : goal.returns-clause-fits
returns-clause-fits c =
    let d = c.args.desk in
    let t = c.args.self.now in
    let v = c.args.table.now in
    let slots = t.frame.registers.slots.items in
    let n = c.statement-statement.result in
    let found = c.swap-found.result in
    let after = c.swap-found.new.self in
    subst (λ (u : GhostState). FitsThread d (record { frame = after; stock = t.stock; pending_call = c.returning-self.result }) u)
    (sym c.swap-found.ensures.table)
    (fits_swapped d t v c.args.cell (as_word (slot_value slots (hand slots))) found n c.returning-self.result after c.assert_invariant.ensures c.requires.fits
    c.requires.pending_call c.requires.none
    (cell_of_swap d t v c.args.cell c.requires.fits c.requires.within c.requires.act)
    (subst (λ (u : GhostState). HasGoneOn d t.frame after u) c.swap-found.ensures.table c.swap-found.ensures.on)
    (c.returning-self.ensures ∙ ap (λ (k : Kind). gives_back k n found found.owned) c.kind.ensures))

pub returns-clause-stepped : goal.returns-clause-stepped
returns-clause-stepped c =
    let d = c.args.desk in
    let t = c.args.self.now in
    let v = c.args.table.now in
    let r = c.requires in
    let slots = t.frame.registers.slots.items in
    let cell = c.args.cell in
    let n = (task_at t.frame).statement in
    let x = c.swap-found.result in
    let on = c.swap-found.ensures in
    let fit : may_go slots cell (hand slots) ≡ true = ap (λ (b : Bool). b && is_of (kind_at cell) (slot_value slots (hand slots))) r.there ∙ r.kind in
    swapped_here d t v (Swap c.args.cell) cell (hand slots) r.none r.within r.act refl x _ _ _ _ r.fits r.pending_call (going_is slots cell (hand slots)
    r.there r.kind) r.owes refl
    on.found refl
    (ap (λ (s : Said). Event s) (c.silent.ensures ∙ ap silent c.statement-statement.ensures)) on.table
    (on.frame_view ∙ sym (ap (λ (b : Bool). frame_settled (cond b (slots_swapped (hand slots) (other slots) slots (came (model_state v) slots cell)) slots)
    false t.frame.endings.list (rest t.frame)) fit))
    (c.returning-self.ensures ∙ ap (λ (q : Kind). gives_back q c.statement-statement.result x x.owned) c.kind.ensures
    ∙ ap (λ m. gives_back (kind_at cell) m x x.owned) c.statement-statement.ensures)
