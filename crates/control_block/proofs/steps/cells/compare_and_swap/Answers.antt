use Rattle.std.proofs.Common.{ap, ◌∙◌, ⊎_elim, eqb-true, refl}
use Rattle.control_block.proofs.Prelude.{cases_eq, eqb-false}
use Rattle.control_block.proofs.kept.CompareSwap.{allows_compare_swap}
use Rattle.control_block.proofs.steps.cells.compare_and_swap.Goals as goal
use Rattle.control_word.specs.HandleWords.{cell_of_handle}

pub compare_exchange-requires : goal.compare_exchange-requires
compare_exchange-requires g c =
    let r = c.requires in let table = c.args.table.now in let seat = c.args.seat.now in let a = g.A.CellArgs in let slots = table.table_id.slots in
    let i = c.args.word in let found = c.bits-found.result in let n = c.bits.result in let me = seat.me in (
      r.table,
      r.word,
      record {
        allows = allows_compare_swap table.key slots seat.id i found n a.cell a.expected a.new a.weak c.args.seen (cell_of_handle c.args.new) me r.rests
            r.cell r.seen.0
            c.bits-found.ensures r.seen.1 r.expected r.new.1 refl r.hand r.room c.bits.ensures;
      },
    )

pub returns-clause-seat : goal.returns-clause-seat
returns-clause-seat g c =
    let r = c.requires in let t = c.compare_exchange.ensures in let n = c.compare_exchange.result in let found = c.bits-found.result in (
      t.0,
      t.1,
      ⊎_elim (λ e. (t.2.0 e c.args.seen r.seen.0 (e ∙ c.bits-found.ensures)).1 ∙ r.rests.none) (λ other. ap (λ m. m.1) (t.2.1 other) ∙ r.rests.none)
          (cases_eq n found),
    )

pub returns-clause-gave : goal.returns-clause-gave
returns-clause-gave g c = λ same.
    let r = c.requires in let t = c.compare_exchange.ensures in let n = c.compare_exchange.result in let found = c.bits-found.result in
    let e = eqb-true n found same in
    (t.2.0 e c.args.seen r.seen.0 (e ∙ c.bits-found.ensures)).0

pub returns-clause-missed : goal.returns-clause-missed
returns-clause-missed g c = λ other.
    let r = c.requires in let t = c.compare_exchange.ensures in let n = c.compare_exchange.result in
    let found = c.bits-found.result in t.2.1 (eqb-false n found other)
