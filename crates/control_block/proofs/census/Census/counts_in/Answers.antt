use Rattle.std.proofs.Common.{◌≡◌, ℕ, ◌-◌, slice_index, sym, ap, ◌∙◌}
use Rattle.control_block.proofs.Prelude.{CensusNow, cond-false, cond-true, number_of, owners_in, slots_items, spot}
use Rattle.control_block.proofs.closings.Closing.{index_at, none_less, one_less}
use Rattle.control_block.specs.Census.{is_free}
use Rattle.control_block.proofs.census.Census.counts_in.Goals as goal

pub returns-then-is_free : goal.returns-then-is_free
returns-then-is_free g c =
    let l = slots_items c.self.inside.closed.words in let b = c.args.block.0 in
    let o : c.unpack_count-owners.result.number ≡ owners_in c.args.self.now b =
    c.unpack_count-owners.ensures.number
    ∙ (ap number_of (index_at l _ c.word.result c.word.ensures ∙ ap (slice_index l) c.block_word.ensures) ∙ ap
    (λ (z : CensusNow). owners_in z b) c.self.view_is) in
    (o, sym (cond-true (is_free c.args.self.now b) 0 _ (sym c.is_free.ensures ∙ c.if-is_free.true)))

pub returns-then-owners-eq0 : goal.returns-then-owners-eq0
returns-then-owners-eq0 g c =
    let l = slots_items c.self.inside.closed.words in let b = c.args.block.0 in
    let o : c.unpack_count-owners.result.number ≡ owners_in c.args.self.now b =
    c.unpack_count-owners.ensures.number
    ∙ (ap number_of (index_at l _ c.word.result c.word.ensures ∙ ap (slice_index l) c.block_word.ensures) ∙ ap
    (λ (z : CensusNow). owners_in z b) c.self.view_is) in
    let n : c.unpack_count-number.result.number ≡ number_of (slice_index c.args.self.now.words (spot b 1)) =
    c.unpack_count-number.ensures.number
    ∙ (ap number_of (index_at l _ c.word-2.result c.word-2.ensures ∙ ap (slice_index l) c.block_word-2.ensures)
    ∙ ap (λ (z : CensusNow). number_of (slice_index z.words (spot b 1))) c.self.view_is) in (
      o,
      (n ∙ none_less (owners_in c.args.self.now b) _ (sym o ∙ c.if-owners-eq0.true))
          ∙ sym (cond-false (is_free c.args.self.now b) 0 _ (sym c.is_free.ensures ∙ c.if-is_free.false)),
    )

pub returns-else-owners-eq0 : goal.returns-else-owners-eq0
returns-else-owners-eq0 g c =
    let l = slots_items c.self.inside.closed.words in let b = c.args.block.0 in
    let o : c.unpack_count-owners.result.number ≡ owners_in c.args.self.now b =
    c.unpack_count-owners.ensures.number
    ∙ (ap number_of (index_at l _ c.word.result c.word.ensures ∙ ap (slice_index l) c.block_word.ensures) ∙ ap
    (λ (z : CensusNow). owners_in z b) c.self.view_is) in
    let n : c.unpack_count-number.result.number ≡ number_of (slice_index c.args.self.now.words (spot b 1)) =
    c.unpack_count-number.ensures.number
    ∙ (ap number_of (index_at l _ c.word-2.result c.word-2.ensures ∙ ap (slice_index l) c.block_word-2.ensures)
    ∙ ap (λ (z : CensusNow). number_of (slice_index z.words (spot b 1))) c.self.view_is) in (
      o,
      (c.saturating_sub-weaks.ensures ∙ (ap (λ (x : ℕ). x - 1) n ∙ one_less (owners_in c.args.self.now b) _ (λ e. c.if-owners-eq0.false (o ∙ e))))
          ∙ sym (cond-false (is_free c.args.self.now b) 0 _ (sym c.is_free.ensures ∙ c.if-is_free.false)),
    )
