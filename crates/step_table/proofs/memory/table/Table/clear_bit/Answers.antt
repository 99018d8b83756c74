use Rattle.std.proofs.Common.{◌≡◌, ◌%◌, cond, not, ◌==◌, bit_and, ap, ◌∙◌, subst, arith}
use Rattle.step_table.proofs.Prelude.{GhostState, history_after, Miss, model_state, OnShelf}
use Rattle.step_table.proofs.Prelude.{opening, ShelfStep, TableInvariant, Unshelve, views_after}
use Rattle.control_word.proofs.packing.Bits.{bit_tells}
use Rattle.step_table.proofs.tables.Shelf.{cleared_words, found_on, kept_unshelve, shown_bit}
use Rattle.step_table.proofs.tables.Standing.{found, kept_as, kept_now}
use Rattle.step_table.proofs.memory.table.Table.clear_bit.Goals as goal

pub returns-clause-got : goal.returns-clause-got
returns-clause-got c =
    let v = c.args.self.now in
    let b = c.args.block in
    let k : TableInvariant v = kept_now _ _ _ _ v c.self.invariant c.self.view_is in
    let w : c.self.inside.words ≡ v.words = ap (λ (s : GhostState). s.words) c.self.view_is in
    let f : c.get-found.result ≡ found_on v b = found c.self.inside.words v.words c.place_on_shelf-word.result _ _ w
    c.place_on_shelf-word.ensures c.get-found.ensures in
    let t = bit_tells (found_on v b) (b.0 % 64) ((model_state v).shelved b.0) (shown_bit v b.0 k c.requires.inside) in
    let m = c.shelf_bit.ensures in
    (λ i. not (bit_and (f i) (m i) == 0)) ∙ t

pub invariant_of-self : goal.invariant_of-self
invariant_of-self c =
    let v = c.args.self.now in
    let b = c.args.block in
    let k : TableInvariant v = kept_now _ _ _ _ v c.self.invariant c.self.view_is in
    let w : c.self.inside.words ≡ v.words = ap (λ (s : GhostState). s.words) c.self.view_is in
    let x = not (bit_and c.get-found.result c.shelf_bit.result == 0) in
    kept_as v c.args.desk (OnShelf b (cond x Unshelve Miss)) _ _ _ _
    (kept_unshelve v c.args.desk b x k c.requires.seat c.requires.idle c.requires.inside (returns-clause-got c))
    (ap (λ (s : GhostState). s.extent) c.self.view_is)
    (let e = c.place_on_shelf-word.ensures in let f = c.get-found.ensures in let m = c.shelf_bit-2.ensures in
    let s = c.set.ensures in let t = cleared_words (opening v.extent) v.words b x c.requires.inside in cc)
    (subst (λ (y : ShelfStep). (c.then-ghost_history.result.history ≡ history_after v c.args.desk (OnShelf b y))
    × (c.then-ghost_history.result.views ≡ views_after v c.args.desk (OnShelf b y))) c.cleared-atomic_step.ensures c.then-ghost_history.ensures)
