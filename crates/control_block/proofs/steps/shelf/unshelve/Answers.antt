use Rattle.std.proofs.Common.{◌/◌, ◌%◌, ◌<◌, bit_and, sym, ap, subst, arith}
use Rattle.control_block.proofs.Prelude.{Allows, bit_not, Block, none, Ruled, step, unshelved, w64}
use Rattle.control_block.proofs.kept.Shelf.{allows_unshelve, seats_kept, told_clear, told_set}
use Rattle.control_block.proofs.steps.shelf.unshelve.Goals as goal
use Rattle.control_word.specs.Layout.{shelf_words}

pub fetch_and-requires : goal.fetch_and-requires
fetch_and-requires g c =
    let r = c.requires in let table = c.args.table.now in let seat = c.args.seat.now in let i = c.args.place in
    let a = bit_not w64 c.shelf_bit-bit.result in
    let within = c.requires.inside in let low : c.args.block.0 / 64 < shelf_words seat.me.0.shape.blocks = omega arith in (
      r.table,
      r.place.1,
      record {
        allows = subst (λ (x : Block). Allows (Ruled table.key) table.table_id.slots seat.id seat.me i (λ n. bit_and n a)
            (unshelved x (step table.table_id.slots i a 0 none) seat.me)) (sym r.meant)
            (allows_unshelve table.key table.table_id.slots seat.id i a c.args.block seat.me r.rests r.place.0
            (ap (bit_not w64) c.shelf_bit-bit.ensures) low);
      },
    )

pub returns-clause-event : goal.returns-clause-event
returns-clause-event g c =
    let t = subst (λ (x : Block). unshelved x (step 0 0 0 0 none) c.args.seat.now.me c.fetch_and.result c.fetch_and.new.seat.me)
    c.requires.meant c.fetch_and.ensures.2 in
    λ e. (t.0 (told_set c.fetch_and.result (c.args.block.0 % 64) c.shelf_bit-bit.result c.shelf_bit-bit.ensures e)).0

pub returns-clause-missed : goal.returns-clause-missed
returns-clause-missed g c =
    let t = subst (λ (x : Block). unshelved x (step 0 0 0 0 none) c.args.seat.now.me c.fetch_and.result c.fetch_and.new.seat.me)
    c.requires.meant c.fetch_and.ensures.2 in
    λ e. t.1 (told_clear c.fetch_and.result (c.args.block.0 % 64) c.shelf_bit-bit.result c.shelf_bit-bit.ensures e)

pub returns-clause-seat : goal.returns-clause-seat
returns-clause-seat g c = (
  c.fetch_and.ensures.0,
  c.fetch_and.ensures.1,
  seats_kept g.M.StepArgs.block c.args.seat.now.me c.fetch_and.new.seat.me c.fetch_and.result c.fetch_and.ensures.2,
)
