use Rattle.std.proofs.Common.{◌∷◌, None, refl, ap, ◌∙◌, subst}
use Rattle.control_block.proofs.Prelude.{IsPrepared}
use Rattle.control_block.proofs.words.Seats.{all_written, four}
use Rattle.control_block.proofs.steps.makes.prepare.Goals as goal

pub write-requires-2-clause-prepared : goal.write-requires-2-clause-prepared
write-requires-2-clause-prepared g c =
    let v = c.args.seat.now.me.0 in let awake = c.requires.rests.awake in let t0 = c.begin.ensures.prepared in
    let t1 = c.write.ensures.wrote v t0.0 None awake t0.1 in
    (v, _, None, awake, t1)

pub write-requires-3-clause-prepared : goal.write-requires-3-clause-prepared
write-requires-3-clause-prepared g c =
    let v = c.args.seat.now.me.0 in let awake = c.requires.rests.awake in let t0 = c.begin.ensures.prepared in
    let t1 = c.write.ensures.wrote v t0.0 None awake t0.1 in
    let t2 = c.write-2.ensures.wrote v _ None awake t1 in
    (v, _, None, awake, t2)

pub write-requires-4-clause-prepared : goal.write-requires-4-clause-prepared
write-requires-4-clause-prepared g c =
    let v = c.args.seat.now.me.0 in let awake = c.requires.rests.awake in let t0 = c.begin.ensures.prepared in
    let t1 = c.write.ensures.wrote v t0.0 None awake t0.1 in
    let t2 = c.write-2.ensures.wrote v _ None awake t1 in
    let t3 = c.write-3.ensures.wrote v _ None awake t2 in
    (v, _, None, awake, t3)

pub write-requires-5-clause-prepared : goal.write-requires-5-clause-prepared
write-requires-5-clause-prepared g c =
    let v = c.args.seat.now.me.0 in let awake = c.requires.rests.awake in let t0 = c.begin.ensures.prepared in
    let t1 = c.write.ensures.wrote v t0.0 None awake t0.1 in
    let t2 = c.write-2.ensures.wrote v _ None awake t1 in
    let t3 = c.write-3.ensures.wrote v _ None awake t2 in
    let t4 = c.write-4.ensures.wrote v _ None awake t3 in
    (v, _, None, awake, t4)

pub returns-clause-prepared : goal.returns-clause-prepared
returns-clause-prepared g c =
    let v = c.args.seat.now.me.0 in let awake = c.requires.rests.awake in let t0 = c.begin.ensures.prepared in
    let t1 = c.write.ensures.wrote v t0.0 None awake t0.1 in
    let t2 = c.write-2.ensures.wrote v _ None awake t1 in
    let t3 = c.write-3.ensures.wrote v _ None awake t2 in
    let t4 = c.write-4.ensures.wrote v _ None awake t3 in
    let t5 = c.write-5.ensures.wrote v _ None awake t4 in
    subst (λ l. IsPrepared v c.args.block c.write-5.new.seat.me l None)
    (all_written t0.0 _ _ _ _ _ t0.1.sized ∙ ap (λ l. c.args.flags ∷ l) (four c.args.fields c.requires.sized)) t5

pub begin-requires-clause-table : goal.begin-requires-clause-table
begin-requires-clause-table g c = c.requires.table

pub begin-requires-clause-rests : goal.begin-requires-clause-rests
begin-requires-clause-rests g c = c.requires.rests

pub begin-requires-clause-stored : goal.begin-requires-clause-stored
begin-requires-clause-stored g c = (refl, c.requires.stored)

pub write-requires-clause-prepared : goal.write-requires-clause-prepared
write-requires-clause-prepared g c =
    let t0 = c.begin.ensures.prepared in (c.args.seat.now.me.0, t0.0, None, c.requires.rests.awake, t0.1)

pub write-requires-clause-table : goal.write-requires-clause-table
write-requires-clause-table g c =
    c.begin.ensures.seat.0 ∙ c.requires.table

pub write-requires-clause-meant : goal.write-requires-clause-meant
write-requires-clause-meant g c = (refl, refl)

pub write-requires-2-clause-table : goal.write-requires-2-clause-table
write-requires-2-clause-table g c =
    c.write.ensures.seat.0 ∙ (c.begin.ensures.seat.0 ∙ c.requires.table)

pub write-requires-2-clause-meant : goal.write-requires-2-clause-meant
write-requires-2-clause-meant g c = (refl, refl)

pub write-requires-3-clause-table : goal.write-requires-3-clause-table
write-requires-3-clause-table g c =
    c.write-2.ensures.seat.0 ∙ (c.write.ensures.seat.0 ∙ (c.begin.ensures.seat.0 ∙ c.requires.table))

pub write-requires-3-clause-meant : goal.write-requires-3-clause-meant
write-requires-3-clause-meant g c = (refl, refl)

pub write-requires-4-clause-table : goal.write-requires-4-clause-table
write-requires-4-clause-table g c =
    c.write-3.ensures.seat.0 ∙ (c.write-2.ensures.seat.0 ∙ (c.write.ensures.seat.0 ∙ (c.begin.ensures.seat.0 ∙ c.requires.table)))

pub write-requires-4-clause-meant : goal.write-requires-4-clause-meant
write-requires-4-clause-meant g c = (refl, refl)

pub write-requires-5-clause-table : goal.write-requires-5-clause-table
write-requires-5-clause-table g c =
    c.write-4.ensures.seat.0 ∙ (c.write-3.ensures.seat.0 ∙ (c.write-2.ensures.seat.0 ∙ (c.write.ensures.seat.0 ∙
    (c.begin.ensures.seat.0 ∙ c.requires.table))))

pub write-requires-5-clause-meant : goal.write-requires-5-clause-meant
write-requires-5-clause-meant g c = (refl, refl)

pub returns-clause-seat : goal.returns-clause-seat
returns-clause-seat g c = (
  c.write-5.ensures.seat.0 ∙ (c.write-4.ensures.seat.0 ∙ (c.write-3.ensures.seat.0 ∙ (c.write-2.ensures.seat.0 ∙
      (c.write.ensures.seat.0 ∙ c.begin.ensures.seat.0)))),
  c.write-5.ensures.seat.1 ∙ (c.write-4.ensures.seat.1 ∙ (c.write-3.ensures.seat.1 ∙ (c.write-2.ensures.seat.1 ∙
      (c.write.ensures.seat.1 ∙ c.begin.ensures.seat.1)))),
)
