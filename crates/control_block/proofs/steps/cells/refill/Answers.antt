use Rattle.std.proofs.Common.{◌≡◌, ◌+◌, ◌*◌, ◌==◌, sym, ap, ◌∙◌, subst}
use Rattle.control_block.proofs.Prelude.{Allows, either, none, Ruled, step}
use Rattle.control_block.specs.CellStepKinds.{refilled}
use Rattle.control_word.proofs.packing.Cells.{none_taken}
use Rattle.control_block.proofs.kept.Refill.{allows_refill}
use Rattle.control_block.proofs.steps.cells.refill.Goals as goal
use Rattle.control_word.specs.HandleWords.{handle_bits}
use Rattle.control_word.specs.Limits.{one_taken}

pub compare_exchange-requires : goal.compare_exchange-requires
compare_exchange-requires g c =
    let r = c.requires in let table = c.args.table.now in let seat = c.args.seat.now in let x = c.args.seen in let m = g.M.StepArgs in
    let less : c.bits-full.result + one_taken * x.taken ≡ c.bits-found.result =
    ap (λ n. n + one_taken * x.taken) (c.bits-full.ensures ∙ ap handle_bits c.handle.ensures) ∙ (none_taken x ∙ sym c.bits-found.ensures) in (
      r.table,
      r.word,
      record {
        allows = subst (λ n. Allows (Ruled table.key) table.table_id.slots seat.id seat.me c.args.word (λ y. either (y == c.bits-found.result)
            c.bits-full.result y)
            (refilled m.kind m.object m.place m.block n (step table.table_id.slots c.args.word c.bits-found.result c.bits-full.result none) seat.me))
            (sym r.seen.2)
            (allows_refill table.key table.table_id.slots seat.id c.args.word c.bits-found.result c.bits-full.result g.A.CellArgs.cell x m.kind m.object m.place
            m.block seat.me r.rests r.holds.0 r.holds.1 r.seen.3 r.cell r.seen.0 c.bits-found.ensures r.seen.1 less);
      },
    )
