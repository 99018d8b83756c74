use Rattle.std.proofs.Common.{◌≡◌, Bool, true, cond, ◌&&◌, set, sym, refl, ap, ◌∙◌, subst}
use Rattle.step_threads.proofs.Prelude.{as_word, came, Event, Exchange, FitsThread, frame_settled}
use Rattle.step_threads.proofs.Prelude.{GhostState, gives_back, HasGoneOn, is_of, Kind, kind_at}
use Rattle.step_threads.proofs.Prelude.{may_go, model_state, rest, Said, silent, slot_value}
use Rattle.step_threads.proofs.Prelude.{task_at}
use Rattle.step_threads.proofs.StoreFits.{cell_of_exchange, fits_swapped, going_is}
use Rattle.step_threads.proofs.StoreSteps.{swapped_here}
use Rattle.step_threads.proofs.Named.{refusal_none, told_as}
use Rattle.step_threads.proofs.thread.Thread.exchange.Goals as goal

pub returns-clause-fits : goal.returns-clause-fits
returns-clause-fits c =
    let d = c.args.desk in
    let t = c.args.self.now in
    let v = c.args.table.now in
    let slots = t.frame.registers.slots.items in
    let n = c.statement-statement.result in
    let found = c.exchange-found.result in
    let after = c.exchange-found.new.self in
    subst (λ (u : GhostState). FitsThread d (record { frame = after; stock = t.stock; pending_call = c.returning-self.result }) u)
    (sym c.exchange-found.ensures.table)
    (fits_swapped d t v c.args.cell (as_word (slot_value slots c.args.name)) found n c.returning-self.result after c.assert_invariant.ensures c.requires.fits
    c.requires.pending_call c.requires.none
    (cell_of_exchange d t v c.args.name c.args.cell c.requires.fits c.requires.within c.requires.act)
    (subst (λ (u : GhostState). HasGoneOn d t.frame after u) c.exchange-found.ensures.table c.exchange-found.ensures.on)
    (c.returning-self.ensures ∙ ap (λ (k : Kind). gives_back k n found found.owned) c.kind.ensures))

pub returns-clause-stepped : goal.returns-clause-stepped
returns-clause-stepped c =
    let d = c.args.desk in
    let t = c.args.self.now in
    let v = c.args.table.now in
    let r = c.requires in
    let slots = t.frame.registers.slots.items in
    let cell = c.args.cell in
    let n = (task_at t.frame).statement in
    let x = c.exchange-found.result in
    let on = c.exchange-found.ensures in
    let fit : may_go slots cell c.args.name ≡ true = ap (λ (b : Bool). b && is_of (kind_at cell) (slot_value slots c.args.name)) r.there ∙ r.kind in
    swapped_here d t v (Exchange c.args.name c.args.cell) cell c.args.name r.none r.within r.act refl x _ _ _ _ r.fits r.pending_call (going_is slots cell
    c.args.name r.there r.kind) r.owes refl
    on.found (sym (ap (told_as n) (refusal_none slots cell r.there)))
    (ap (λ (s : Said). Event s) (c.silent.ensures ∙ ap silent c.statement-statement.ensures)) on.table
    (on.frame_view ∙ sym (ap (λ (b : Bool). frame_settled (cond b (set slots c.args.name (came (model_state v) slots cell)) slots) t.frame.taken
    t.frame.endings.list (rest t.frame)) fit))
    (c.returning-self.ensures ∙ ap (λ (q : Kind). gives_back q c.statement-statement.result x x.owned) c.kind.ensures
    ∙ ap (λ m. gives_back (kind_at cell) m x x.owned) c.statement-statement.ensures)
