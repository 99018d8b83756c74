use Rattle.std.proofs.Common.{◌≡◌, ◌+◌, ◌-◌, ◌≤◌, ◌++◌, length, replicate}
use Rattle.owner_text.proofs.draft.make_room.Given as goal

abbrev pub invariant-loop-object : goal.invariant-loop-object
invariant-loop-object l = record {
  items : l.objects.items ≡ l.fn.objects.items
      ++ replicate (l._object - length l.fn.objects.items) 0;
  most : l._object - length l.fn.objects.items ≤ l.number + 1 - length l.fn.objects.items;
}
