-- Handles of one word are equivalent, and those that are equivalent have one word.
use Rattle.std.proofs.Common.{ap}
use Rattle.control_word.proofs.Prelude.{and_parts, handle}
use Rattle.control_word.proofs.history.Orders.{same_equivalent}
use Rattle.control_word.proofs.lists.Tallies.{same_number_true, same_place_true}
use Rattle.control_word.proofs.packing.Cells.{same_cells}
use Rattle.control_word.specs.HandleWords.{cell_of_handle, EqualWordsAreEquivalent, EquivalentHaveOneWord, handle_bits}
use Rattle.control_word.specs.declared.packed.cell.CellWord.{CellWord}

pub equal_words : EqualWordsAreEquivalent
equal_words object k j a b f g e =
    let same = same_cells (cell_of_handle a) (cell_of_handle b) f g e in
    same_equivalent (handle k (object a.block) a.place) (handle j (object b.block) b.place)
    (ap (λ (x : CellWord). object x.owned) same) (ap (λ (x : CellWord). x.place) same)

pub one_word : EquivalentHaveOneWord
one_word object one k j a b alike =
    let parts = and_parts _ _ alike in
    let x = one a.block b.block (same_number_true (object a.block) (object b.block) parts.0) in
    let y = same_place_true a.place b.place parts.1 in
    λ i. handle_bits record { block = x i; place = y i }
