use Rattle.std.proofs.Common.{◌≡◌, vec_len, vec_capacity}
use Rattle.control_block.proofs.Prelude.{all_blocks}
use Rattle.control_block.proofs.domain.all_stored.Given as goal

abbrev pub invariant-loop-number : goal.invariant-loop-number
invariant-loop-number l = (l.store.items ≡ all_blocks l.number) × (vec_capacity l.store ≡ l.blocks) × (vec_len l.store ≡ l.number)
