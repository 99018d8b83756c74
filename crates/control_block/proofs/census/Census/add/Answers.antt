use Rattle.std.proofs.Common.{◌≡◌, slice_index, sym, ap, ◌∙◌}
use Rattle.control_block.proofs.Prelude.{CensusNow, site_place, slots_items}
use Rattle.control_block.proofs.closings.Closing.{index_at}
use Rattle.control_block.proofs.closings.HolderLists.{none_more, one_more}
use Rattle.control_block.proofs.census.Census.add.Goals as goal

pub returns-in_ok-push : goal.returns-in_ok-push
returns-in_ok-push g c =
    let l = slots_items c.self.inside.closed.words in let n = c.word-word.result in let x = c.args.cell in
    let word : n ≡ slice_index c.args.self.now.words (site_place c.args.self.now.blocks x.site) =
    index_at l c.site_word.result n c.word-word.ensures
    ∙ (ap (slice_index l) c.site_word.ensures ∙ ap (λ (z : CensusNow). slice_index z.words (site_place z.blocks x.site)) c.self.view_is) in
    one_more c.args.self.now c.args.block.0 x n c.args.cells.now.items c.push.new.self.items word
    (sym c.owned_number.ensures.number ∙ (c.if-owned_number-from.true ∙ (c.from.ensures ∙ c.number.ensures))) c.in_ok-push.ensures.items

pub returns-else-owned_number-from : goal.returns-else-owned_number-from
returns-else-owned_number-from g c =
    let l = slots_items c.self.inside.closed.words in let n = c.word-word.result in let x = c.args.cell in
    let word : n ≡ slice_index c.args.self.now.words (site_place c.args.self.now.blocks x.site) =
    index_at l c.site_word.result n c.word-word.ensures
    ∙ (ap (slice_index l) c.site_word.ensures ∙ ap (λ (z : CensusNow). slice_index z.words (site_place z.blocks x.site)) c.self.view_is) in
    none_more c.args.self.now c.args.block.0 x n c.args.cells.now.items word
    (λ e. c.if-owned_number-from.false (c.owned_number.ensures.number ∙ (e ∙ sym (c.from.ensures ∙ c.number.ensures))))
