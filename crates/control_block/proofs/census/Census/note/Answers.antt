use Rattle.std.proofs.Common.{◌≡◌, ◌-◌, slice_index, ap, ◌∙◌, arith}
use Rattle.control_block.proofs.Prelude.{CensusNow, site_place, slots_items}
use Rattle.control_block.proofs.closings.AllHolders.{not_noted, noted}
use Rattle.control_block.proofs.closings.Closing.{index_at}
use Rattle.control_block.proofs.census.Census.note.Goals as goal
use Rattle.control_block.proofs.census.Census.note.Goals.{else-owned-gt0-via-else-owned-gt0}
use Rattle.control_block.proofs.census.Census.note.Goals.{else-owned-gt0-via-then-owned-gt0+else-owned-from}

pub returns-in_ok-add-clause-told : goal.returns-in_ok-add-clause-told
returns-in_ok-add-clause-told g c =
    let l = slots_items c.self.inside.closed.words in let w = c.word-word.result in let x = c.args.cell in
    let word : w ≡ slice_index c.args.self.now.words (site_place c.args.self.now.blocks x.site) =
    index_at l c.site_word.result w c.word-word.ensures
    ∙ (ap (slice_index l) c.site_word.ensures ∙ ap (λ (z : CensusNow). slice_index z.words (site_place z.blocks x.site)) c.self.view_is) in
    let n = c.owned_number-owned.result in let some = c.if-owned-gt0.true in
    let few = c.if-owned-from.true in let from = c.from.ensures in
    let blocks = ap (λ (z : CensusNow). z.blocks) c.self.view_is in let size = c.requires.each in record {
      tells = λ of t.
          noted c.args.self.now x w n c.args.all.now.items of word c.owned_number-owned.ensures.number t (n - 1)
          c.index_mut.result.now c.add.new.self (omega (arith, some)) (omega (arith, some, few, from, blocks, size))
          c.index_mut.ensures.value c.in_ok-add.ensures.cells c.in_ok-add.ensures.owners c.in_ok-add.ensures.weaks;
    }

pub returns-else-owned-gt0-clause-told : goal.returns-else-owned-gt0-clause-told
returns-else-owned-gt0-clause-told g c =
    let l = slots_items c.self.inside.closed.words in let w = c.word-word.result in let x = c.args.cell in
    let word : w ≡ slice_index c.args.self.now.words (site_place c.args.self.now.blocks x.site) =
    index_at l c.site_word.result w c.word-word.ensures
    ∙ (ap (slice_index l) c.site_word.ensures ∙ ap (λ (z : CensusNow). slice_index z.words (site_place z.blocks x.site)) c.self.view_is) in
    let n = c.owned_number-owned.result in let blocks = ap (λ (z : CensusNow). z.blocks) c.self.view_is in record {
      tells = λ of t.
          not_noted c.args.self.now x w n c.args.all.now.items of word c.owned_number-owned.ensures.number t
          (λ k few is. elim c.else-owned-gt0.branch [
            | else-owned-gt0-via-then-owned-gt0+else-owned-from v ↦
                let past = v.if-owned-from.false in let from = v.from.ensures in omega (arith, is, few, from, blocks, past)
            | else-owned-gt0-via-else-owned-gt0 v ↦ let none = v.if-owned-gt0.false in omega (arith, is, none)
          ]);
    }
