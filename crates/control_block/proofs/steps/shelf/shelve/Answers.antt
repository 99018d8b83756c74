use Rattle.std.proofs.Common.{sym, subst}
use Rattle.control_block.proofs.Prelude.{Block, shelved}
use Rattle.control_block.proofs.kept.Shelf.{allows_shelve}
use Rattle.control_block.proofs.steps.shelf.shelve.Goals as goal

pub fetch_or-requires : goal.fetch_or-requires
fetch_or-requires g c =
    let r = c.requires in let table = c.args.table.now in let seat = c.args.seat.now in let b = c.args.block in let m = r.meant in (
      r.table,
      r.place.1,
      record {
        allows = subst (λ (x : Block). Rattle.atomic_table.specs.Table.Allows
            (Rattle.control_block.specs.Rule.Ruled table.key) table.table_id.slots seat.id seat.me
            c.args.place (λ n. Rattle.std.specs.Prelude.bit_or n c.shelf_bit.result)
            (shelved x (Rattle.atomic_table.specs.Table.step table.table_id.slots c.args.place c.shelf_bit.result 0 mathlib.Core.Option.none) seat.me)) (sym m)
            (allows_shelve table.key table.table_id.slots seat.id c.args.place c.shelf_bit.result b seat.me r.rests r.place.0 c.shelf_bit.ensures r.stored);
      },
    )
