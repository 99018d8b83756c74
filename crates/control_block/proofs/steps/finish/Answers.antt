use Rattle.std.proofs.Common.{◌≡◌, ◌-◌, ◌<◌, Bool, [], ◌∷◌, Some, sym, ap, ◌∙◌, subst, eq-eqb}
use Rattle.control_block.proofs.Prelude.{Allows, Block, Ends, fetched, Finish, IsClear, none, opening_of, Ruled}
use Rattle.control_block.proofs.Prelude.{SeatView, step, tells, value}
use Rattle.control_block.proofs.words.Seats.{finished_told, first_slot}
use Rattle.control_block.proofs.kept.Fetch.{allows_fetch}
use Rattle.control_block.proofs.kept.Finish.{allows_find, allows_finish}
use Rattle.control_block.proofs.steps.finish.Goals as goal

pub load-requires : goal.load-requires
load-requires g c =
    let r = c.requires in let e = c.block_word-word.ensures in let i = c.block_word-word.result in let table = c.args.table.now in
    let seat = c.args.seat.now in let o = g.M.StepArgs.object in (
      r.table,
      subst (λ x. x < table.table_id.words) (sym e) r.word.2,
      record {
        allows = subst (λ (b : Block). Allows (Ruled table.key) table.table_id.slots seat.id seat.me i (λ n. n)
            (fetched b o (step table.table_id.slots i 0 0 none) seat.me)) (sym r.ends.0)
            (allows_fetch table.key table.table_id.slots seat.id i o c.args.block r.value.0 seat.me r.rests (r.word.0, r.word.1) r.ends.1 r.value.1);
      },
    )

pub take-value-requires-clause-hand : goal.take-value-requires-clause-hand
take-value-requires-clause-hand g c =
    let f = c.load.ensures.2 in (c.requires.word.0, f.0, f.3 ∙ ap (λ (b : Block). (b.0 - 1, Some f.0) ∷ []) c.requires.ends.0)

pub load-found-requires : goal.load-found-requires
load-found-requires g c =
    let r = c.requires in let e = c.block_word-word.ensures in let i = c.block_word-word.result in let table = c.args.table.now in
    let o = g.M.StepArgs.object in let f = c.load.ensures.2 in let x = c.take-value.ensures in let seat = c.take-value.new.seat in
    let now = ap (λ m. m.0) x.emptied ∙ f.2 in (
      x.seat.0 ∙ (c.load.ensures.0 ∙ r.table),
      subst (λ y. y < table.table_id.words) (sym e) r.word.2,
      record {
        allows = allows_find table.key table.table_id.slots seat.id o i c.args.block f.0 seat.me (ap (λ w. w.view.spent) now ∙ r.rests.awake)
            (ap (λ w. w.view.pending) now) (ap (λ w. w.hand) now ∙ ap Some r.ends.0) (ap (λ m. m.1) x.emptied) (r.word.0, r.word.1)
            (subst (λ (w : SeatView g.row.V.Denot). Ends w o c.args.block.0) (sym now) r.ends.1)
            (subst (λ (w : SeatView g.row.V.Denot). IsClear w o) (sym now) r.clear)
            (subst (λ (w : SeatView g.row.V.Denot). value (opening_of w.shape) w.view.seen o ≡ Some f.0) (sym now) f.1) e;
      },
    )

pub fetch_sub-found-requires : goal.fetch_sub-found-requires
fetch_sub-found-requires g c =
    let r = c.requires in let e = c.block_word-word.ensures in let i = c.block_word-word.result in let table = c.args.table.now in
    let o = g.M.StepArgs.object in let f = c.load.ensures.2 in let x = c.take-value.ensures in let seat = c.load-found.new.seat in
    let still = c.load-found.ensures.2.1 c.if-found-eq1.false in
    let now = ap (λ m. m.0) still ∙ (ap (λ m. m.0) x.emptied ∙ f.2) in (
      c.load-found.ensures.0 ∙ (x.seat.0 ∙ (c.load.ensures.0 ∙ r.table)),
      subst (λ y. y < table.table_id.words) (sym e) r.word.2,
      record {
        allows = allows_finish table.key table.table_id.slots seat.id o i c.args.block f.0 seat.me (ap (λ w. w.view.spent) now ∙ r.rests.awake)
            (ap (λ w. w.view.pending) now) (ap (λ w. w.hand) now ∙ ap Some r.ends.0) (ap (λ m. m.1) still ∙ ap (λ m. m.1) x.emptied)
            (r.word.0, r.word.1)
            (subst (λ (w : SeatView g.row.V.Denot). Ends w o c.args.block.0) (sym now) r.ends.1)
            (subst (λ (w : SeatView g.row.V.Denot). IsClear w o) (sym now) r.clear)
            (subst (λ (w : SeatView g.row.V.Denot). value (opening_of w.shape) w.view.seen o ≡ Some f.0) (sym now) f.1) e;
      },
    )

pub returns-then-found-eq1-clause-seat : goal.returns-then-found-eq1-clause-seat
returns-then-found-eq1-clause-seat g c =
    let t = c.load-found.ensures.2.0 c.if-found-eq1.true in let x = c.take-value.ensures in
    (c.load-found.ensures.0 ∙ (x.seat.0 ∙ c.load.ensures.0), c.load-found.ensures.1 ∙ (x.seat.1 ∙ c.load.ensures.1), t.3)

pub returns-then-found-eq1-clause-value : goal.returns-then-found-eq1-clause-value
returns-then-found-eq1-clause-value g c =
    let f = c.load.ensures.2 in f.1 ∙ ap first_slot (sym f.3 ∙ c.take-value.ensures.value)

pub returns-then-found-eq1-clause-event : goal.returns-then-found-eq1-clause-event
returns-then-found-eq1-clause-event g c = λ x is.
    let v = c.args.seat.now.me.0 in let o = g.M.StepArgs.object in let one = c.if-found-eq1.true in
    subst (λ (b : Bool). tells (Finish o b x) v c.load-found.new.seat.me.0) (eq-eqb c.load-found.result 1 one)
    (finished_told g.M.StepArgs.block v c.take-value.new.seat.me c.load-found.new.seat.me o c.load-found.result
    (step c.args.table.now.table_id.slots c.block_word-word.result 0 0 none)
    (ap (λ m. m.0) c.take-value.ensures.emptied ∙ c.load.ensures.2.2) (c.load-found.ensures.2.0 one) x is)

pub returns-clause-value : goal.returns-clause-value
returns-clause-value g c =
    let f = c.load.ensures.2 in f.1 ∙ ap first_slot (sym f.3 ∙ c.take-value.ensures.value)

pub returns-clause-event : goal.returns-clause-event
returns-clause-event g c = λ x is.
    let still = c.load-found.ensures.2.1 c.if-found-eq1.false in
    finished_told g.M.StepArgs.block c.args.seat.now.me.0 c.load-found.new.seat.me c.fetch_sub-found.new.seat.me g.M.StepArgs.object c.fetch_sub-found.result
    (step c.args.table.now.table_id.slots c.block_word-word.result 1 0 none)
    (ap (λ m. m.0) still ∙ (ap (λ m. m.0) c.take-value.ensures.emptied ∙ c.load.ensures.2.2)) c.fetch_sub-found.ensures.2 x is
