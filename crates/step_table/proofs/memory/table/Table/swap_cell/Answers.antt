use Rattle.std.proofs.Common.{◌≡◌, ℕ, length, ap, ◌∙◌, arith}
use Rattle.step_table.proofs.Prelude.{Extent, GhostState, OnCell, site_place, Swap, TableInvariant}
use Rattle.step_table.proofs.tables.Standing.{kept_as, kept_now}
use Rattle.step_table.proofs.tables.Shown.{kept_cell, somewhere, word_inside}
use Rattle.step_table.proofs.tables.Swaps.{kept_swap}
use Rattle.step_table.proofs.memory.table.Table.swap_cell.Goals as goal

pub site_word-requires : goal.site_word-requires
site_word-requires c =
    let k : TableInvariant c.args.self.now = kept_now _ _ _ _ c.args.self.now c.self.invariant c.self.view_is in
    let is = kept_cell c.args.self.now c.args.desk c.args.cell k c.requires.open in
    somewhere c.args.self.now c.args.cell k is

pub set-requires : goal.set-requires
set-requires c =
    let k : TableInvariant c.args.self.now = kept_now _ _ _ _ c.args.self.now c.self.invariant c.self.view_is in
    let w : c.self.inside.words ≡ c.args.self.now.words = ap (λ (s : GhostState). s.words) c.self.view_is in
    let x : c.self.inside.extent ≡ c.args.self.now.extent = ap (λ (s : GhostState). s.extent) c.self.view_is in
    let is = kept_cell c.args.self.now c.args.desk c.args.cell k c.requires.open in
    let i = word_inside c.args.self.now c.args.desk c.args.cell k c.requires.seat is in
    let at : c.site_word.result ≡ site_place c.args.self.now.extent.shape.blocks c.args.cell =
    c.site_word.ensures ∙ ap (λ (y : Extent). site_place y.shape.blocks c.args.cell) x in
    omega (arith, i, at, ap (length {A = ℕ}) w)

pub invariant_of-self : goal.invariant_of-self
invariant_of-self c =
    let k : TableInvariant c.args.self.now = kept_now _ _ _ _ c.args.self.now c.self.invariant c.self.view_is in
    let w : c.self.inside.words ≡ c.args.self.now.words = ap (λ (s : GhostState). s.words) c.self.view_is in
    let x : c.self.inside.extent ≡ c.args.self.now.extent = ap (λ (s : GhostState). s.extent) c.self.view_is in
    let is = kept_cell c.args.self.now c.args.desk c.args.cell k c.requires.open in
    let at : c.site_word.result ≡ site_place c.args.self.now.extent.shape.blocks c.args.cell =
    c.site_word.ensures ∙ ap (λ (y : Extent). site_place y.shape.blocks c.args.cell) x in
    kept_as c.args.self.now c.args.desk (OnCell (Swap c.args.cell c.args.new c.shown-found.result)) _ _ _ _
    (kept_swap c.args.self.now c.args.desk c.args.cell c.args.new c.shown-found.result k c.requires.seat c.requires.open c.requires.new.1
    c.requires.hand c.requires.owes
    c.requires.room c.shown-found.ensures)
    x (let e = c.pack.ensures in let s = c.set.ensures in cc) c.then-ghost_history.ensures
