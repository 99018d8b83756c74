use Rattle.std.proofs.Common.{◌≡◌, ◌+◌, ◌++◌, take, vec_len, vec_capacity}
use Rattle.pointers.proofs.program.teams.note_all.Given as goal

abbrev pub invariant-loop-failed : goal.invariant-loop-failed
invariant-loop-failed l =
    (l.all.items ≡ l.initial.all.items ++ take l.failed-index l.more) × (vec_capacity l.all ≡ vec_capacity l.initial.all)
    × (vec_len l.all ≡ vec_len l.initial.all + l.failed-index)
