use Rattle.std.proofs.Common.{◌+◌, ◌<◌, sym, ap, ◌∙◌, subst}
use Rattle.control_block.proofs.Prelude.{spot}
use Rattle.control_block.proofs.kept.Clear.{allows_clear}
use Rattle.control_block.proofs.steps.clears.swap_out.Goals as goal
use Rattle.control_block.specs.Rule.{members_of}

pub swap-requires : goal.swap-requires
swap-requires g c =
    let r = c.requires in let e = c.block_word.ensures in let table = c.args.table.now in let seat = c.args.seat.now in (
      r.table,
      subst (λ x. x < table.table_id.words) (sym e) r.word.3,
      record {
        allows = allows_clear table.key table.table_id.slots seat.id c.args.block.0 g.M.StepArgs.object g.M.StepArgs.word c.block_word.result seat.me
            r.rests r.ends
            (subst (λ x. x < members_of c.args.seat.now.me.0.shape) (sym r.word.2) r.used) (e ∙ ap (λ x. spot c.args.block.0 (7 + x)) (sym r.word.2)) r.room;
      },
    )

pub of_bits-requires : goal.of_bits-requires
of_bits-requires g c = c.swap.ensures.2.0

pub returns-clause-seat : goal.returns-clause-seat
returns-clause-seat g c =
    let t = c.swap.ensures in let u = c.of_bits.ensures in (t.0, t.1, (t.2.1 c.of_bits.result u.valid (sym u.bits)).1 ∙ c.requires.rests.none)

pub returns-clause-gave : goal.returns-clause-gave
returns-clause-gave g c = let t = c.swap.ensures in let u = c.of_bits.ensures in (t.2.1 c.of_bits.result u.valid (sym u.bits)).0
