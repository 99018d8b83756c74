use Rattle.std.proofs.Common.{◌≡◌, ℕ, length, sym, ap, ◌∙◌, arith}
use Rattle.step_table.proofs.Prelude.{Extent, GhostState, site_place, TableInvariant}
use Rattle.step_table.proofs.tables.Standing.{found, kept_now}
use Rattle.step_table.proofs.tables.Shown.{cell_packed, found_in, kept_cell, somewhere}
use Rattle.step_table.proofs.tables.Shown.{word_inside}
use Rattle.step_table.proofs.memory.table.Table.shown.Goals as goal

pub site_word-requires : goal.site_word-requires
site_word-requires c =
    let k : TableInvariant c.args.self.now = kept_now _ _ _ _ c.args.self.now c.self.invariant c.self.view_is in
    let is = kept_cell c.args.self.now c.args.desk c.args.cell k c.requires.open in
    somewhere c.args.self.now c.args.cell k is

pub get-requires : goal.get-requires
get-requires c =
    let k : TableInvariant c.args.self.now = kept_now _ _ _ _ c.args.self.now c.self.invariant c.self.view_is in
    let w : c.self.inside.words ≡ c.args.self.now.words = ap (λ (s : GhostState). s.words) c.self.view_is in
    let x : c.self.inside.extent ≡ c.args.self.now.extent = ap (λ (s : GhostState). s.extent) c.self.view_is in
    let is = kept_cell c.args.self.now c.args.desk c.args.cell k c.requires.open in
    let i = word_inside c.args.self.now c.args.desk c.args.cell k c.requires.seat is in
    let at : c.site_word.result ≡ site_place c.args.self.now.extent.shape.blocks c.args.cell =
    c.site_word.ensures ∙ ap (λ (y : Extent). site_place y.shape.blocks c.args.cell) x in
    omega (arith, i, at, ap (length {A = ℕ}) w)

pub unpack-requires : goal.unpack-requires
unpack-requires c =
    let k : TableInvariant c.args.self.now = kept_now _ _ _ _ c.args.self.now c.self.invariant c.self.view_is in
    let w : c.self.inside.words ≡ c.args.self.now.words = ap (λ (s : GhostState). s.words) c.self.view_is in
    let x : c.self.inside.extent ≡ c.args.self.now.extent = ap (λ (s : GhostState). s.extent) c.self.view_is in
    let is = kept_cell c.args.self.now c.args.desk c.args.cell k c.requires.open in
    let at : c.site_word.result ≡ site_place c.args.self.now.extent.shape.blocks c.args.cell =
    c.site_word.ensures ∙ ap (λ (y : Extent). site_place y.shape.blocks c.args.cell) x in
    let f = found c.self.inside.words c.args.self.now.words c.site_word.result _ _ w at c.get.ensures in
    cell_packed c.args.self.now c.args.desk c.args.cell c.get.result k c.requires.seat is f

pub returns : goal.returns
returns c =
    let k : TableInvariant c.args.self.now = kept_now _ _ _ _ c.args.self.now c.self.invariant c.self.view_is in
    let w : c.self.inside.words ≡ c.args.self.now.words = ap (λ (s : GhostState). s.words) c.self.view_is in
    let x : c.self.inside.extent ≡ c.args.self.now.extent = ap (λ (s : GhostState). s.extent) c.self.view_is in
    let is = kept_cell c.args.self.now c.args.desk c.args.cell k c.requires.open in
    let at : c.site_word.result ≡ site_place c.args.self.now.extent.shape.blocks c.args.cell =
    c.site_word.ensures ∙ ap (λ (y : Extent). site_place y.shape.blocks c.args.cell) x in
    let f = found c.self.inside.words c.args.self.now.words c.site_word.result _ _ w at c.get.ensures in
    (found_in c.args.self.now c.args.desk c.args.cell c.unpack.result k c.requires.seat is c.unpack.ensures.valid (sym f ∙ sym c.unpack.ensures.bits)).shows
