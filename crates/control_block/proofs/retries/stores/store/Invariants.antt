use Rattle.std.proofs.Common.{None}
use Rattle.control_block.proofs.Prelude.{block_out, object_of, shown_handle}
use Rattle.control_block.proofs.retries.stores.store.Given as goal

abbrev pub ghosts-let_go : goal.ghosts-let_go
ghosts-let_go g a =
    record {
      kind = a.kind;
      object = object_of (shown_handle a.seat.now.me.0 a.kind a.out);
      place = a.out.place;
      wanted = None;
      block = block_out a.out;
      word = 0;
    }
