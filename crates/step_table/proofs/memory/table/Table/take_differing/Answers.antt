use Rattle.std.proofs.Common.{◌≡◌, ℕ, ◌+◌, length, get_or, Some, sym, ap, ◌∙◌, arith, eqb-true}
use Rattle.step_table.proofs.Prelude.{Extent, GhostState, OnCell, site_place, TableInvariant, Take}
use Rattle.step_table.proofs.tables.Standing.{kept_as, kept_now}
use Rattle.step_table.proofs.tables.Shown.{kept_cell, somewhere, word_inside}
use Rattle.step_table.proofs.tables.Swaps.{one_more_fits, kept_take_differing}
use Rattle.step_table.proofs.memory.table.Table.take_differing.Goals as goal

pub overflow_add-pack : goal.overflow_add-pack
overflow_add-pack c =
    let a = one_more_fits c.args.seen c.requires.seen.0 c.requires.seen.2 in let e = c.pack.ensures in omega (arith, a, e)

pub site_word-requires : goal.site_word-requires
site_word-requires c =
    let k : TableInvariant c.args.self.now = kept_now _ _ _ _ c.args.self.now c.self.invariant c.self.view_is in
    let is = kept_cell c.args.self.now c.args.desk c.args.cell k c.requires.open in
    somewhere c.args.self.now c.args.cell k is

pub set-requires : goal.set-requires
set-requires c =
    let k : TableInvariant c.args.self.now = kept_now _ _ _ _ c.args.self.now c.self.invariant c.self.view_is in
    let w : c.self.inside.words ≡ c.args.self.now.words = ap (λ (s : GhostState). s.words) c.self.view_is in
    let x : c.self.inside.extent ≡ c.args.self.now.extent = ap (λ (s : GhostState). s.extent) c.self.view_is in
    let is = kept_cell c.args.self.now c.args.desk c.args.cell k c.requires.open in
    let i = word_inside c.args.self.now c.args.desk c.args.cell k c.requires.seat is in
    let at : c.site_word.result ≡ site_place c.args.self.now.extent.shape.blocks c.args.cell =
    c.site_word.ensures ∙ ap (λ (y : Extent). site_place y.shape.blocks c.args.cell) x in
    omega (arith, i, at, ap (length {A = ℕ}) w)

pub invariant_of-self : goal.invariant_of-self
invariant_of-self c =
    let k : TableInvariant c.args.self.now = kept_now _ _ _ _ c.args.self.now c.self.invariant c.self.view_is in
    let w : c.self.inside.words ≡ c.args.self.now.words = ap (λ (s : GhostState). s.words) c.self.view_is in
    let x : c.self.inside.extent ≡ c.args.self.now.extent = ap (λ (s : GhostState). s.extent) c.self.view_is in
    let is = kept_cell c.args.self.now c.args.desk c.args.cell k c.requires.open in
    let at : c.site_word.result ≡ site_place c.args.self.now.extent.shape.blocks c.args.cell =
    c.site_word.ensures ∙ ap (λ (y : Extent). site_place y.shape.blocks c.args.cell) x in
    let z = eqb-true _ _ (sym c.shows.ensures ∙ c.if-not-shows.false) in
    kept_as c.args.self.now c.args.desk (OnCell (Take c.args.cell c.args.seen (Some c.args.compared))) _ _ _ _
    (kept_take_differing c.args.self.now c.args.desk c.args.cell c.args.seen c.args.compared k c.requires.seat c.requires.idle c.requires.open
    c.requires.seen.1 c.requires.seen.2
    c.requires.differs c.requires.expected c.requires.hand c.requires.room
    c.requires.seen.0 z)
    x (let e = c.pack.ensures in let g : c.pack.result + 17179869184 ≡ get_or c.args.self.now.words
    (site_place c.args.self.now.extent.shape.blocks c.args.cell) 0 + 17179869184 = omega (arith, e, z)
    in let s = c.set.ensures in cc) c.then-ghost_history.ensures
