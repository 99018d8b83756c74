use Rattle.std.proofs.Common.{◌≡◌, ℕ, nat_lt, Option, sym, ap, ◌∙◌}
use Rattle.step_table.proofs.Prelude.{Handle, on, slot_pointer}
use Rattle.step_table.proofs.holding.Values.{before_by}
use Rattle.step_table.proofs.slots.registers.Registers.is_before.Goals as goal

pub returns : goal.returns
returns c =
    let l = c.args.self.now.slots.items in
    let rank : Option Handle → ℕ = λ o. on (λ x. x.block.0) 0 o in
    let a : c.rank.result ≡ rank (slot_pointer l c.args.first) = c.rank.ensures ∙ ap rank (c.get.ensures ∙ ap (slot_pointer l) c.from.ensures) in
    let b : c.rank-2.result ≡ rank (slot_pointer l c.args.second) = c.rank-2.ensures ∙ ap rank (c.get-2.ensures ∙ ap (slot_pointer l) c.from-2.ensures) in
    ap (λ (n : ℕ). nat_lt n c.rank-2.result) a ∙ ap (λ (n : ℕ). nat_lt (rank (slot_pointer l c.args.first)) n) b
    ∙ sym (before_by c.args._desk l c.args.table.now c.args.first c.args.second c.assert_invariant.ensures c.requires.holds)
