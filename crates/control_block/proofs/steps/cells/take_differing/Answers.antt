use Rattle.std.proofs.Common.{ap, ◌∙◌, ⊎_elim, eqb-true}
use Rattle.control_block.proofs.Prelude.{cases_eq, eqb-false}
use Rattle.control_block.proofs.kept.Take.{allows_differ}
use Rattle.control_block.proofs.steps.cells.take_differing.Goals as goal

pub compare_exchange-requires : goal.compare_exchange-requires
compare_exchange-requires g c =
    let r = c.requires in let table = c.args.table.now in let seat = c.args.seat.now in let x = r.seen in let a = g.A.CellArgs in (
      r.table,
      r.word,
      record {
        allows = allows_differ table.key table.table_id.slots seat.id c.args.word c.bits-found.result a.cell a.expected a.new a.weak c.args.seen
            seat.me r.rests r.cell x.0
            c.bits-found.ensures x.1 x.2 r.room r.expected r.hand r.differs;
      },
    )

pub returns-clause-seat : goal.returns-clause-seat
returns-clause-seat g c =
    let r = c.requires in let t = c.compare_exchange.ensures in let n = c.compare_exchange.result in let found = c.bits-found.result in (
      t.0,
      t.1,
      ⊎_elim (λ e. (t.2.0 e c.args.seen r.seen.0 (e ∙ c.bits-found.ensures)).1 ∙ r.rests.none) (λ other. ap (λ m. m.1) (t.2.1 other).1 ∙ r.rests.none)
          (cases_eq n found),
    )

pub returns-clause-took : goal.returns-clause-took
returns-clause-took g c = λ same.
    let r = c.requires in let t = c.compare_exchange.ensures in let n = c.compare_exchange.result in let found = c.bits-found.result in
    let e = eqb-true n found same in
    (t.2.0 e c.args.seen r.seen.0 (e ∙ c.bits-found.ensures)).0

pub returns-clause-missed : goal.returns-clause-missed
returns-clause-missed g c = λ other.
    let r = c.requires in let t = c.compare_exchange.ensures in let n = c.compare_exchange.result in
    let found = c.bits-found.result in (t.2.1 (eqb-false n found other)).1
