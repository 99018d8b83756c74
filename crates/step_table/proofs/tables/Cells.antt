-- What the word of a cell tells of the cell.
use Rattle.std.proofs.Common.{◌≡◌, ℕ, ◌<◌, ◌≤◌, ◌↔◌, get_or, Some, None, Option, sym, refl, ap, ◌∙◌}
use Rattle.std.proofs.Common.{arith}
use Rattle.step_table.proofs.Prelude.{blocks_of, Cell, cell_bits, cell_of, cells_led, empty, Free}
use Rattle.step_table.proofs.Prelude.{GhostState, handle, IsCellWord, IsKept, Kind, model_state}
use Rattle.step_table.proofs.Prelude.{NumberedHandle, opening, pending, Place, shown, sound}
use Rattle.step_table.proofs.Prelude.{TableInvariant, view_in}
use Rattle.control_word.proofs.history.Formation.{formed}
use Rattle.control_word.proofs.words.Decoding.{cell_decodes}
use Rattle.control_word.specs.declared.model.event.Cell.TheVariants.{Member}
use Rattle.control_word.specs.Events.{kind_of}
use Rattle.control_word.specs.Words.{cell_at}
use Rattle.step_table.proofs.tables.Standing.{ready}
use Rattle.control_word.specs.Limits.{cell_funds}

abbrev pub at_cell : GhostState → Cell → ℕ
at_cell v c = cell_at (opening v.extent) (model_state v) c

-- the word is the packing of what the cell holds, and of how many funds were taken
pub record Decoded (v : GhostState) (c : Cell) : Type 0 where
  pub taken : ℕ
  pub bits : get_or v.words (at_cell v c) 0 ≡ cell_bits (shown (blocks_of (model_state v)) (cell_of (model_state v) c) taken)
  pub valid : IsCellWord (shown (blocks_of (model_state v)) (cell_of (model_state v) c) taken)
  pub few : taken ≤ cell_funds
  pub bare : (cell_of (model_state v) c).object ≡ None → taken ≡ 0
  pub kind : (cell_of (model_state v) c).kind ≡ kind_of (model_state v) c

none_taken : (v : GhostState) (c : Cell) (kept : TableInvariant v) → IsKept (model_state v) c → (cell_of (model_state v) c).object ≡ None
    → kept.stands.taken (at_cell v c) ≡ 0
none_taken v (Free c) kept is e = kept.stands.bare.frees c (let t = cells_led (opening v.extent) v.history in omega arith) e
none_taken v (Member o m) kept is e =
    let place = (sound (opening v.extent) v.history kept.stands.legal).placed o is.1 in
    kept.stands.bare.members ((model_state v).object o).block m place.1 is.0 (ap (λ (n : ℕ). (((model_state v).object n).member m).object) place.0 ∙ e)

of_kind : (v : GhostState) (c : Cell) → TableInvariant v → IsKept (model_state v) c → (cell_of (model_state v) c).kind ≡ kind_of (model_state v) c
of_kind v (Free c) kept is = ((formed (opening v.extent) v.history kept.stands.legal).frees c is).1
of_kind v (Member o m) kept is = ((formed (opening v.extent) v.history kept.stands.legal).members o m).1

pub decoded : (v : GhostState) (d : ℕ) (c : Cell) → TableInvariant v → d < v.extent.actors → IsKept (model_state v) c → Decoded v c
decoded v d c kept lt is =
    let r = ready v d (pending v d) kept lt refl in
    let t = cell_decodes (opening v.extent) v.words v.views v.history kept.stands d (view_in v.views d) r.seated r.awake c is in
    record {
      taken = kept.stands.taken (at_cell v c);
      bits = t.0;
      valid = t.1;
      few = kept.stands.most (at_cell v c);
      bare = none_taken v c kept is;
      kind = of_kind v c kept is;
    }

zero_empty : (block : ℕ → ℕ) (k : Kind) (o : Option ℕ) (p : Option Place) (t : ℕ) → IsCellWord (shown block (handle k o p) t)
    → cell_bits (shown block (handle k o p) t) ≡ 0 → handle k o p ≡ empty k
zero_empty block k None None t valid e = refl
zero_empty block k None (Some p) t valid e = let b = valid.place.0.0 in let u = valid.place.0.1 in absurd (omega (arith, b, u, e))
zero_empty block k (Some o) p t valid e = let b = valid.owned.0 in let u = valid.owned.1 in absurd (omega (arith, b, u, e))

empty_zero : (block : ℕ → ℕ) (k : Kind) (h : NumberedHandle) → h ≡ empty k → cell_bits (shown block h 0) ≡ 0
empty_zero block k h e = ap (λ (x : NumberedHandle). cell_bits (shown block x 0)) e

-- a word that is 0 is that of an empty cell
pub zero_shows : (v : GhostState) (c : Cell) → Decoded v c
    → (get_or v.words (at_cell v c) 0 ≡ 0) ↔ (cell_of (model_state v) c ≡ empty (kind_of (model_state v) c))
zero_shows v c code =
    let h = cell_of (model_state v) c in (
      λ e. zero_empty (blocks_of (model_state v)) h.kind h.object h.place code.taken code.valid (sym code.bits ∙ e) ∙ ap empty code.kind,
      λ e. code.bits ∙ ap (λ (t : ℕ). cell_bits (shown (blocks_of (model_state v)) h t)) (code.bare (ap (λ (x : NumberedHandle). x.object) e))
          ∙ empty_zero (blocks_of (model_state v)) (kind_of (model_state v) c) h e,
    )
