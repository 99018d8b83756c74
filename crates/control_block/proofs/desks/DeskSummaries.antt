-- The words of the shelf's summary are the table's.
use Rattle.std.proofs.Common.{◌≡◌, ℕ, ◌<◌, ◌≤◌, sym, ap, ◌∙◌, arith}
use Rattle.control_block.proofs.Prelude.{Inside, IsDeskWith, Shape, TableId}
use Rattle.control_block.specs.SummaryStepKinds.{summary_at}
use Rattle.control_word.specs.Layout.{summary_words}

module _ {V : Type 0} where
  pub summary_inside : {n' : ℕ} (d : Inside V) (id : TableId) (k : Shape) (i j : ℕ) → IsDeskWith n' d → d.seat.table_id ≡ id
      → d.seat.me.0.shape ≡ k → i ≡ summary_at k j → j < summary_words k.blocks
      → (summary_at d.seat.me.0.shape 0 ≤ i) × (i < id.words)
  summary_inside d id k i j h table shape e low =
      let words = ap (λ (y : TableId). y.words) (sym table) ∙ h.sized.words in
      let long = ap (λ (y : Shape). summary_words y.blocks) shape in
      let here : i ≡ summary_at d.seat.me.0.shape j = e ∙ ap (λ y. summary_at y j) (sym shape) in (omega arith, omega arith)
