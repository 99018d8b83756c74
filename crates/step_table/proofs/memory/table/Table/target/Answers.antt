use Rattle.std.proofs.Common.{◌≡◌, ℕ, length, sym, ap, ◌∙◌, arith}
use Rattle.step_table.proofs.Prelude.{Extent, GhostState, site_place, TableInvariant}
use Rattle.step_table.proofs.tables.Standing.{found, kept_now}
use Rattle.step_table.proofs.tables.Shown.{cell_packed, found_in, somewhere, word_inside}
use Rattle.step_table.proofs.tables.Targets.{kept_there, seat_first, target_found}
use Rattle.step_table.proofs.memory.table.Table.target.Goals as goal

pub site_word-requires : goal.site_word-requires
site_word-requires c =
    let k : TableInvariant c.args.self.now = kept_now _ _ _ _ c.args.self.now c.self.invariant c.self.view_is in
    somewhere c.args.self.now c.args.cell k (kept_there c.args.self.now c.args.cell c.requires)

pub get-requires : goal.get-requires
get-requires c =
    let k : TableInvariant c.args.self.now = kept_now _ _ _ _ c.args.self.now c.self.invariant c.self.view_is in
    let w : c.self.inside.words ≡ c.args.self.now.words = ap (λ (s : GhostState). s.words) c.self.view_is in
    let x : c.self.inside.extent ≡ c.args.self.now.extent = ap (λ (s : GhostState). s.extent) c.self.view_is in
    let is = kept_there c.args.self.now c.args.cell c.requires in
    let i = word_inside c.args.self.now 0 c.args.cell k (seat_first c.args.self.now k) is in
    let at : c.site_word.result ≡ site_place c.args.self.now.extent.shape.blocks c.args.cell =
    c.site_word.ensures ∙ ap (λ (y : Extent). site_place y.shape.blocks c.args.cell) x in
    omega (arith, i, at, ap (length {A = ℕ}) w)

pub unpack-requires : goal.unpack-requires
unpack-requires c =
    let k : TableInvariant c.args.self.now = kept_now _ _ _ _ c.args.self.now c.self.invariant c.self.view_is in
    let w : c.self.inside.words ≡ c.args.self.now.words = ap (λ (s : GhostState). s.words) c.self.view_is in
    let x : c.self.inside.extent ≡ c.args.self.now.extent = ap (λ (s : GhostState). s.extent) c.self.view_is in
    let is = kept_there c.args.self.now c.args.cell c.requires in
    let seat = seat_first c.args.self.now k in
    let at : c.site_word.result ≡ site_place c.args.self.now.extent.shape.blocks c.args.cell =
    c.site_word.ensures ∙ ap (λ (y : Extent). site_place y.shape.blocks c.args.cell) x in
    let f = found c.self.inside.words c.args.self.now.words c.site_word.result _ _ w at c.get.ensures in
    cell_packed c.args.self.now 0 c.args.cell c.get.result k seat is f

pub returns : goal.returns
returns c =
    let k : TableInvariant c.args.self.now = kept_now _ _ _ _ c.args.self.now c.self.invariant c.self.view_is in
    let w : c.self.inside.words ≡ c.args.self.now.words = ap (λ (s : GhostState). s.words) c.self.view_is in
    let x : c.self.inside.extent ≡ c.args.self.now.extent = ap (λ (s : GhostState). s.extent) c.self.view_is in
    let is = kept_there c.args.self.now c.args.cell c.requires in
    let seat = seat_first c.args.self.now k in
    let at : c.site_word.result ≡ site_place c.args.self.now.extent.shape.blocks c.args.cell =
    c.site_word.ensures ∙ ap (λ (y : Extent). site_place y.shape.blocks c.args.cell) x in
    let f = found c.self.inside.words c.args.self.now.words c.site_word.result _ _ w at c.get.ensures in
    let valid = c.unpack.ensures.valid in
    target_found c.args.self.now c.args.cell c.unpack.result
    (found_in c.args.self.now 0 c.args.cell c.unpack.result k seat is valid (sym f ∙ sym c.unpack.ensures.bits))
