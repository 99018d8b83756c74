use Rattle.std.proofs.Common.{◌<◌, sym, ◌∙◌, subst}
use Rattle.control_block.proofs.Prelude.{Allows, began, Block, Has, known, none, Rests, Ruled, step, stored}
use Rattle.control_block.specs.StepKinds.{found_begun}
use Rattle.control_block.proofs.words.Seats.{begun_prepared}
use Rattle.control_block.proofs.kept.Make.{allows_begin, allows_find}
use Rattle.control_block.proofs.steps.makes.begin.Goals as goal

pub load-requires : goal.load-requires
load-requires g c =
    let r = c.requires in let i = c.block_word-word.result in let e = c.block_word-word.ensures in let table = c.args.table.now in
    let seat = c.args.seat.now in (
      r.table,
      subst (λ x. x < table.table_id.words) (sym e) r.word.1,
      record {
        allows = subst (λ (b : Block). Allows (Ruled table.key) table.table_id.slots seat.id seat.me i (λ n. n)
            (found_begun b (step table.table_id.slots i 0 0 none) seat.me))
            (sym r.stored.0) (allows_find table.key table.table_id.slots seat.id i c.args.block seat.me r.rests r.stored.1 e);
      },
    )

pub store-requires : goal.store-requires
store-requires g c =
    let r = c.requires in let i = c.block_word-word.result in let e = c.block_word-word.ensures in let table = c.args.table.now in
    let seat = c.load.new.seat in let still = sym (c.load.ensures.2.1 c.if-load-ne1.true) in (
      c.load.ensures.0 ∙ r.table,
      subst (λ x. x < table.table_id.words) (sym e) r.word.1,
      record {
        allows = subst (λ (b : Block). Allows (Ruled table.key) table.table_id.slots seat.id seat.me i (λ _. 1)
            (λ _. began b (step table.table_id.slots i 1 0 none) seat.me 1))
            (sym r.stored.0) (allows_begin table.key table.table_id.slots seat.id i c.args.block seat.me (subst Rests still r.rests)
            (subst (λ m. Has (stored m.0.view.name c.args.block.0) (known m.0).stores) still r.stored.1) e);
      },
    )

pub returns-then-load-ne1-clause-prepared : goal.returns-then-load-ne1-clause-prepared
returns-then-load-ne1-clause-prepared g c =
    let r = c.requires in let me = c.args.seat.now.me in let still = c.load.ensures.2.1 c.if-load-ne1.true in let b = c.args.block in
    begun_prepared b g.M.StepArgs.block me c.store.new.seat.me 1 (step c.args.table.now.table_id.slots c.block_word-word.result 1 0 none) r.stored.0 r.rests
    (subst (λ m. began g.M.StepArgs.block (step c.args.table.now.table_id.slots c.block_word-word.result 1 0 none) m 1 c.store.new.seat.me) still
    c.store.ensures.2)

pub returns-else-load-ne1-clause-prepared : goal.returns-else-load-ne1-clause-prepared
returns-else-load-ne1-clause-prepared g c =
    let r = c.requires in
    begun_prepared c.args.block g.M.StepArgs.block c.args.seat.now.me c.load.new.seat.me c.load.result
    (step c.args.table.now.table_id.slots c.block_word-word.result 0 0 none) r.stored.0 r.rests (c.load.ensures.2.0 c.if-load-ne1.false)
