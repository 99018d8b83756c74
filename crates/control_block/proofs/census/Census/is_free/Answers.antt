use Rattle.std.proofs.Common.{◌≡◌, ◌/◌, ◌%◌, slice_index, ap, ◌∙◌}
use Rattle.control_block.proofs.Prelude.{CensusNow, frees_in, slots_items}
use Rattle.control_word.specs.Layout.{shelf_place}
use Rattle.control_block.proofs.closings.Closing.{bit_read, index_at}
use Rattle.control_block.proofs.census.Census.is_free.Goals as goal

pub returns : goal.returns
returns g c =
    let l = slots_items c.self.inside.closed.words in let b = c.args.block.0 in let z = c.args.self.now in
    let at : c.shelf_word-word.result ≡ shelf_place z.blocks (frees_in z) (b / 64) =
    c.shelf_word-word.ensures
    ∙ ((λ i. shelf_place c.self.inside.shape.blocks (c.frees.ensures i) (c.number.ensures i / 64))
    ∙ ap (λ (k : CensusNow). shelf_place k.blocks (frees_in z) (b / 64)) c.self.view_is) in
    let word : c.word.result ≡ slice_index z.words (shelf_place z.blocks (frees_in z) (b / 64)) =
    index_at l c.shelf_word-word.result c.word.result c.word.ensures
    ∙ (ap (slice_index l) at ∙ ap (λ (k : CensusNow). slice_index k.words (shelf_place z.blocks (frees_in z) (b / 64))) c.self.view_is) in
    bit_read c.word.result _ (b % 64) c.shelf_bit.result word c.shelf_bit.ensures
