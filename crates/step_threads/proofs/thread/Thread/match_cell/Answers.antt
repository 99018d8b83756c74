use Rattle.std.proofs.Common.{ℕ, true, sym, ap, ◌∙◌, subst}
use Rattle.step_threads.proofs.Prelude
use Prelude.{cell_of_name, compared_in, comparing, cond-false, cond-true, Event, FitsThread, Frame}
use Prelude.{frame_view, GhostState, gives_back, hand, HasGoneOn, Kind, kind_in_state, missed}
use Prelude.{model_state, PendingCall, Quiet, Said, silent, slot_pointer}
use Rattle.step_threads.proofs.CompareFits.{compare_missed, compare_swapped, looking_claims}
use Rattle.step_threads.proofs.CompareSteps.{answers, swaps_it, swaps_none}
use Rattle.step_threads.proofs.CompareTells.{few_still, match_at, match_goes, match_none, match_valid}
use Rattle.step_threads.proofs.CompareTells.{match_within, tells_still}
use Rattle.step_threads.proofs.thread.Thread.match_cell.Goals as goal
use Rattle.step_threads.proofs.Compares.{may_compare}
use Rattle.step_threads.proofs.Named.{named_compare}

pub returns-then-not-compare_and_swap-clause-stepped : goal.returns-then-not-compare_and_swap-clause-stepped
returns-then-not-compare_and_swap-clause-stepped c =
    let d = c.args.desk in
    let t = c.args.self.now in
    let v = c.args.table.now in
    let k = c.args.name in
    let n = c.args.cell in
    let x = c.args.found in
    let r = c.requires in
    let swap = c.compare_and_swap in
    let miss = c.if-not-compare_and_swap.true in
    let slots = t.frame.registers.slots.items in
    swaps_none d t v k n c.args.weak x (match_within d t v k n c.args.weak x r.fits r.act r.pending_call) r.act
    (match_at d t v k n c.args.weak x r.fits r.act r.pending_call r.alike r.owes) (match_goes d t v k n c.args.weak x r.fits r.act r.pending_call) _ _ _
    (sym swap.ensures.same ∙ miss)
    (ap (λ (s : Said). Quiet s) (c.silent.ensures ∙ ap silent c.statement-statement.ensures)) (swap.ensures.table ∙ cond-false swap.result _ _ miss)
    (ap frame_view (swap.ensures.stays miss))
    (c.missed-self.ensures ∙ ap (missed c.statement-statement.result) (c.get-brought.ensures ∙ ap (slot_pointer slots) c.hand.ensures)
    ∙ ap (λ (m : ℕ). missed m (slot_pointer slots (hand slots))) c.statement-statement.ensures)

pub returns-then-not-compare_and_swap-clause-fits : goal.returns-then-not-compare_and_swap-clause-fits
returns-then-not-compare_and_swap-clause-fits c =
    let d = c.args.desk in
    let t = c.args.self.now in
    let v = c.args.table.now in
    let r = c.requires in
    let swap = c.compare_and_swap in
    let miss = c.if-not-compare_and_swap.true in
    let slots = t.frame.registers.slots.items in
    let m = c.statement-statement.result in
    let pending_call = c.missed-self.ensures ∙ ap (missed m) (c.get-brought.ensures ∙ ap (slot_pointer slots) c.hand.ensures) in
    subst (λ (h : PendingCall). FitsThread d (record { frame = swap.new.self; stock = t.stock; pending_call = h }) swap.new.table) (sym pending_call)
    (subst (λ (u : GhostState). FitsThread d (record { frame = swap.new.self; stock = t.stock; pending_call = missed m (slot_pointer slots (hand slots)) }) u)
    (sym (swap.ensures.table ∙ cond-false swap.result _ _ miss))
    (subst (λ (q : Frame). FitsThread d (record { frame = q; stock = t.stock; pending_call = missed m (slot_pointer slots (hand slots)) }) v)
    (sym (swap.ensures.stays miss))
    (compare_missed d t v c.args.name c.args.cell c.args.weak c.args.found r.fits r.act m (looking_claims t c.args.found r.pending_call) r.owes)))

pub returns-clause-stepped : goal.returns-clause-stepped
returns-clause-stepped c =
    let d = c.args.desk in
    let t = c.args.self.now in
    let v = c.args.table.now in
    let k = c.args.name in
    let n = c.args.cell in
    let x = c.args.found in
    let r = c.requires in
    let swap = c.compare_and_swap in
    let hit = c.if-not-compare_and_swap.false in
    let same = sym swap.ensures.same ∙ hit in
    let within = match_within d t v k n c.args.weak x r.fits r.act r.pending_call in
    let kind = c.kind_in-kind.ensures ∙ ap (kind_in_state (model_state v)) c.cell-at.ensures in
    swaps_it d t v k n c.args.weak x within r.act (match_at d t v k n c.args.weak x r.fits r.act r.pending_call r.alike r.owes)
    (match_goes d t v k n c.args.weak x r.fits r.act r.pending_call) _ _ _ same
    (tells_still d t v k n c.args.weak x r.fits r.act true c.assert_invariant.ensures within (match_valid d t v k n c.args.weak x r.fits r.act
    r.pending_call) same r.alike)
    (ap (λ (s : Said). Event s) (c.compared.ensures ∙ ap (λ (m : ℕ). answers m true) c.statement-statement.ensures))
    (swap.ensures.table ∙ cond-true swap.result _ _ hit) (swap.ensures.frame_view hit)
    (c.returning-self.ensures ∙ ap (λ (q : Kind). gives_back q c.statement-statement.result x x.owned) kind
    ∙ ap (λ (m : ℕ). gives_back (kind_in_state (model_state v) (cell_of_name (model_state v) t.frame.registers.slots.items n)) m x x.owned)
    c.statement-statement.ensures)

pub returns-clause-fits : goal.returns-clause-fits
returns-clause-fits c =
    let d = c.args.desk in
    let t = c.args.self.now in
    let v = c.args.table.now in
    let k = c.args.name in
    let n = c.args.cell in
    let x = c.args.found in
    let r = c.requires in
    let swap = c.compare_and_swap in
    let hit = c.if-not-compare_and_swap.false in
    let slots = t.frame.registers.slots.items in
    let m = c.statement-statement.result in
    let table = swap.ensures.table ∙ cond-true swap.result _ _ hit in
    let kind = c.kind_in-kind.ensures ∙ ap (kind_in_state (model_state v)) c.cell-at.ensures in
    subst (λ (h : PendingCall). FitsThread d (record { frame = swap.new.self; stock = t.stock; pending_call = h }) swap.new.table)
    (sym (c.returning-self.ensures ∙ ap (λ (q : Kind). gives_back q m x x.owned) kind))
    (subst (λ (u : GhostState). FitsThread d (record {
      frame = swap.new.self;
      stock = t.stock;
      pending_call = gives_back (kind_in_state (model_state v) (cell_of_name (model_state v) t.frame.registers.slots.items n)) m x x.owned;
    }) u) (sym table)
    (compare_swapped d t v k n c.args.weak x r.fits r.act swap.new.self (compared_in slots (comparing slots k c.args.weak)) c.assert_invariant.ensures m
    (looking_claims t x r.pending_call) (match_none d t v k n c.args.weak x r.fits r.act r.pending_call)
    (subst (λ (u : GhostState). HasGoneOn d t.frame swap.new.self u) table (swap.ensures.on hit))))

pub cell-at-requires-clause-named : goal.cell-at-requires-clause-named
cell-at-requires-clause-named c =
    let t = c.args.self.now in
    let r = c.requires in
    let within = match_within c.args.desk t c.args.table.now c.args.name c.args.cell c.args.weak c.args.found r.fits r.act r.pending_call in
    named_compare t.frame c.args.cell within r.fits.ready c.args.name c.args.weak r.act

pub cell-at-requires-clause-there : goal.cell-at-requires-clause-there
cell-at-requires-clause-there c =
    let t = c.args.self.now in
    let r = c.requires in
    let within = match_within c.args.desk t c.args.table.now c.args.name c.args.cell c.args.weak c.args.found r.fits r.act r.pending_call in
    (may_compare t.frame c.args.name c.args.cell c.args.weak within r.fits.ready r.act r.fits.still).0

pub returning-self-requires : goal.returning-self-requires
returning-self-requires c =
    let d = c.args.desk in
    let t = c.args.self.now in
    let v = c.args.table.now in
    let k = c.args.name in
    let n = c.args.cell in
    let x = c.args.found in
    let r = c.requires in
    let hit = c.if-not-compare_and_swap.false in
    let within = match_within d t v k n c.args.weak x r.fits r.act r.pending_call in
    let valid = match_valid d t v k n c.args.weak x r.fits r.act r.pending_call in
    few_still d t v k n c.args.weak x r.fits r.act c.assert_invariant.ensures within valid (sym c.compare_and_swap.ensures.same ∙ hit)
