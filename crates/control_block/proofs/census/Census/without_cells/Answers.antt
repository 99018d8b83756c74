use Rattle.std.proofs.Common.{ℕ, ◌+◌, length, ap, ◌∙◌, sym, length-append}
use Rattle.std.specs.Prelude.{slice_get}
use Rattle.control_block.specs.Census.{owners_in, weaks_in}
use Rattle.control_block.proofs.closings.AllHolders.{told_pushed}
use Rattle.control_block.proofs.census.Census.without_cells.Goals as goal

pub loop-before-preserved : goal.loop-before-preserved
loop-before-preserved g c =
    let i = c.loop-before.invariant in let p = c.push_reserved.ensures in let z = c.args.self.now in let n = c.loop-before.before in
    let f = c.counts_in-forgotten.ensures in (
      ap length p.items ∙ (length-append c.loop-before.all.items _ ∙ ap (λ (m : ℕ). m + 1) i.0),
      p.capacity ∙ i.1,
      λ k h e.
          told_pushed z c.loop-before.all.items n (record { cells = c.new-cells.result; forgotten = c.counts_in-forgotten.result }) i.0 i.2
          c.new-cells.ensures.items (f.0 ∙ ap (owners_in z) c.numbered.ensures) (f.1 ∙ ap (weaks_in z) c.numbered.ensures) k h
          (ap (λ l. slice_get l k) (sym p.items) ∙ e),
    )
