use Rattle.std.proofs.Common.{◌≡◌, ◌+◌, ◌++◌, take, vec_len, vec_capacity}
use Rattle.control_block.proofs.parting.split.append_all.Given as goal

abbrev pub invariant-loop-block : goal.invariant-loop-block
invariant-loop-block l =
    (l.store.items ≡ l.initial.store.items ++ take l.block-index l.more) × (vec_capacity l.store ≡ vec_capacity l.initial.store)
    × (vec_len l.store ≡ vec_len l.initial.store + l.block-index)
