use Rattle.std.proofs.Common.{◌≡◌, ◌+◌, ◌≤◌, List, [], ◌∷◌, ◌++◌, length, vec_capacity, sym, refl}
use Rattle.std.proofs.Common.{ap, ◌∙◌, subst, inl, inr, arith, length-append}
use Rattle.shared_handle.proofs.Prelude.{AllEnd, AreRounds, Cleared, Empty, Ended, Ending, gone_of}
use Rattle.shared_handle.proofs.Prelude.{IsParting, KeepsElsewhere, Last, Others}
use Rattle.shared_handle.proofs.Goings.{clearing_does, does_both, does_none, does_one}
use Rattle.shared_handle.proofs.PiledEndings.{all_append, popped, stacked_above, stacked_on}
use Rattle.shared_handle.proofs.Piles.{back_elsewhere, elsewhere_both, elsewhere_none}
use Rattle.shared_handle.proofs.Piles.{finished, finished_elsewhere, fits, from_top, room_above}
use Rattle.shared_handle.proofs.Piles.{same_both, same_desk, some_left}
use Rattle.shared_handle.proofs.Rounds.{clears_in_hand, popped_none}
use Rattle.shared_handle.proofs.pile.Pile.next_value.Goals as goal

pub loop-rounds-init : goal.loop-rounds-init
loop-rounds-init g c =
    let d = c.args.desk.now in let items = c.in_ok-top.ensures.items in (
      popped c.args.domain.now d c.args.self.now record { endings = c.pop.new.self } c.in_ok-top.top c.requires.carries items c.pop.ensures.capacity,
      subst (λ (zs : List (Ending g.row.V.Denot)). KeepsElsewhere d c.args.self.now.endings.items d zs) items
          (elsewhere_none d c.args.self.now.endings.items),
      ([], (refl, sym items), omega arith, refl),
      does_none IsParting d,
      refl,
      refl,
      same_desk d,
    )

pub clear_next-left-requires-clause-domain : goal.clear_next-left-requires-clause-domain
clear_next-left-requires-clause-domain g c = c.loop-rounds.invariant.0.belongs

pub clear_next-left-requires-clause-ends : goal.clear_next-left-requires-clause-ends
clear_next-left-requires-clause-ends g c = c.loop-rounds.invariant.0.ends

pub clear_next-left-requires-clause-some : goal.clear_next-left-requires-clause-some
clear_next-left-requires-clause-some g c =
    let l = c.loop-rounds in some_left l.top c.is_clear.result l.invariant.0.ends.few c.is_clear.ensures.1 c.if-is_clear.false

pub loop-rounds-preserved-in-Empty : goal.loop-rounds-preserved-in-Empty
loop-rounds-preserved-in-Empty g c =
    let t = c.clear_next-left in let e = c.in-Empty.ensures in let l = c.loop-rounds in let i = l.invariant in
    let d = c.args.desk.now in
    let xs = l.self.endings.items in let was = c.args.self.now.endings.items in (
      stacked_on c.args.domain.now l.desk t.new.desk l.self l.self l.top t.new.self Empty i.0 e.clears e.endings e.beside e.object.0 e.ends e.desk
          refl refl,
      elsewhere_both d l.desk t.new.desk was (xs ++ l.top ∷ []) (xs ++ t.new.self ∷ []) i.1
          (back_elsewhere l.desk t.new.desk l.top t.new.self Empty xs (xs ++ l.top ∷ []) (xs ++ t.new.self ∷ []) refl
          e.clears e.endings e.count e.beside e.object.0 e.ends refl),
      (
        record { round = Cleared l.top.cleared (gone_of {V = g.row.V.Denot} Empty); desk = l.desk; pile = xs ++ l.top ∷ [] } ∷ i.2.0,
        (
          i.2.1,
          clears_in_hand l.desk t.new.desk xs (xs ++ t.new.self ∷ []) l.top t.new.self Empty
              (some_left l.top c.is_clear.result i.0.ends.few c.is_clear.ensures.1 c.if-is_clear.false) e.clears e.noted refl e.bag,
        ),
        (let a = i.2.2 in let b = c.loop-rounds-test.true in omega arith),
        i.2.3,
      ),
      does_both IsParting d l.desk t.new.desk i.3 (clearing_does l.desk t.new.desk l.top Empty e.clears),
      e.bag ∙ i.4,
      e.held ∙ i.5,
      same_both d l.desk t.new.desk i.6 e.desk,
    )

pub loop-rounds-preserved-in-Others : goal.loop-rounds-preserved-in-Others
loop-rounds-preserved-in-Others g c =
    let t = c.clear_next-left in let e = c.in-Others.ensures in let l = c.loop-rounds in let i = l.invariant in
    let d = c.args.desk.now in
    let xs = l.self.endings.items in let was = c.args.self.now.endings.items in (
      stacked_on c.args.domain.now l.desk t.new.desk l.self l.self l.top t.new.self Others i.0 e.clears e.endings e.beside e.object.0 e.ends e.desk
          refl refl,
      elsewhere_both d l.desk t.new.desk was (xs ++ l.top ∷ []) (xs ++ t.new.self ∷ []) i.1
          (back_elsewhere l.desk t.new.desk l.top t.new.self Others xs (xs ++ l.top ∷ []) (xs ++ t.new.self ∷ []) refl
          e.clears e.endings e.count e.beside e.object.0 e.ends refl),
      (
        record { round = Cleared l.top.cleared (gone_of {V = g.row.V.Denot} Others); desk = l.desk; pile = xs ++ l.top ∷ [] } ∷ i.2.0,
        (
          i.2.1,
          clears_in_hand l.desk t.new.desk xs (xs ++ t.new.self ∷ []) l.top t.new.self Others
              (some_left l.top c.is_clear.result i.0.ends.few c.is_clear.ensures.1 c.if-is_clear.false) e.clears e.noted refl e.bag,
        ),
        (let a = i.2.2 in let b = c.loop-rounds-test.true in omega arith),
        i.2.3,
      ),
      does_both IsParting d l.desk t.new.desk i.3 (clearing_does l.desk t.new.desk l.top Others e.clears),
      e.bag ∙ i.4,
      e.held ∙ i.5,
      same_both d l.desk t.new.desk i.6 e.desk,
    )

pub push_reserved-requires : goal.push_reserved-requires
push_reserved-requires g c =
    let t = c.clear_next-left in let e = c.in-Last.ensures in let l = c.loop-rounds in let xs = l.self.endings.items in
    let room : length (xs ++ t.new.self ∷ []) + 1 ≤ vec_capacity l.self.endings =
    room_above c.args.domain.now l.desk t.new.desk l.self (xs ++ t.new.self ∷ []) l.top t.new.self (Last c.in-Last.next)
    (vec_capacity l.self.endings) l.invariant.0 e.clears e.endings e.beside e.object.0 e.ends e.desk.shape c.assert_invariant.ensures refl refl in
    let many = length-append xs (t.new.self ∷ []) in omega arith

pub loop-rounds-preserved : goal.loop-rounds-preserved
loop-rounds-preserved g c =
    let t = c.clear_next-left in let e = c.in-Last.ensures in let l = c.loop-rounds in let i = l.invariant in
    let d = c.args.desk.now in let put = c.push_reserved in let next = c.in-Last.next in
    let xs = l.self.endings.items in let ys = put.new.self.items in let was = c.args.self.now.endings.items in
    let above : ys ++ next ∷ [] ≡ (xs ++ t.new.self ∷ []) ++ next ∷ [] = ap (λ zs. zs ++ next ∷ []) put.ensures.items in (
      stacked_above c.args.domain.now l.desk t.new.desk l.self record { endings = put.new.self } l.top t.new.self next i.0 e.clears e.endings e.beside
          e.object.0 e.ends e.desk put.ensures.items put.ensures.capacity,
      elsewhere_both d l.desk t.new.desk was (xs ++ l.top ∷ []) (ys ++ next ∷ []) i.1
          (back_elsewhere l.desk t.new.desk l.top t.new.self (Last next) xs (xs ++ l.top ∷ []) (ys ++ next ∷ []) refl
          e.clears e.endings e.count e.beside e.object.0 e.ends above),
      (
        record { round = Cleared l.top.cleared (gone_of (Last next)); desk = l.desk; pile = xs ++ l.top ∷ [] } ∷ i.2.0,
        (
          i.2.1,
          clears_in_hand l.desk t.new.desk xs (ys ++ next ∷ []) l.top t.new.self (Last next)
              (some_left l.top c.is_clear.result i.0.ends.few c.is_clear.ensures.1 c.if-is_clear.false) e.clears e.noted above e.bag,
        ),
        (let a = i.2.2 in let b = c.loop-rounds-test.true in omega arith),
        i.2.3,
      ),
      does_both IsParting d l.desk t.new.desk i.3 (clearing_does l.desk t.new.desk l.top (Last next) e.clears),
      e.bag ∙ i.4,
      e.held ∙ i.5,
      same_both d l.desk t.new.desk i.6 e.desk,
    )

pub finish-requires-clause-domain : goal.finish-requires-clause-domain
finish-requires-clause-domain g c = c.loop-rounds.invariant.0.belongs

pub finish-requires-clause-ends : goal.finish-requires-clause-ends
finish-requires-clause-ends g c = c.loop-rounds.invariant.0.ends

pub returns-then-is_clear-clause-carries : goal.returns-then-is_clear-clause-carries
returns-then-is_clear-clause-carries g c =
    let e = c.finish.ensures in
    finished c.args.domain.now c.loop-rounds.desk c.finish.new.desk c.loop-rounds.self c.loop-rounds.top c.loop-rounds.invariant.0 e.endings e.desk

pub returns-then-is_clear-clause-elsewhere : goal.returns-then-is_clear-clause-elsewhere
returns-then-is_clear-clause-elsewhere g c =
    let e = c.finish.ensures in let l = c.loop-rounds in let xs = l.self.endings.items in
    elsewhere_both c.args.desk.now l.desk c.finish.new.desk c.args.self.now.endings.items (xs ++ l.top ∷ []) xs l.invariant.1
    (from_top l.desk c.finish.new.desk l.top xs (xs ++ l.top ∷ []) xs refl
    (finished_elsewhere l.desk c.finish.new.desk l.top xs e.endings e.count))

pub returns-then-is_clear-clause-rounds : goal.returns-then-is_clear-clause-rounds
returns-then-is_clear-clause-rounds g c =
    let e = c.finish.ensures in let l = c.loop-rounds in let i = l.invariant.2 in let v = c.finish.result in (
      record { round = Ended v; desk = l.desk; pile = l.self.endings.items ++ l.top ∷ [] } ∷ i.0,
      (
        i.1,
        record {
          top = l.top;
          were = refl;
          finish = record {
            clear = c.is_clear.ensures.0 c.if-is_clear.true;
            value = e.value.0;
            vacant = e.event.0;
            event = e.event.1;
            stock = e.event.2;
          };
          bag = e.bag;
        },
      ),
      (let a = i.2 in let b = c.loop-rounds-test.true in omega arith),
      (refl, i.3),
    )

pub returns-then-is_clear-clause-parting : goal.returns-then-is_clear-clause-parting
returns-then-is_clear-clause-parting g c =
    does_both IsParting c.args.desk.now c.loop-rounds.desk c.finish.new.desk c.loop-rounds.invariant.3
    (does_one IsParting c.loop-rounds.desk c.finish.new.desk _ c.finish.ensures.event.1 tt)

pub returns-then-is_clear-clause-bag : goal.returns-then-is_clear-clause-bag
returns-then-is_clear-clause-bag g c = c.finish.ensures.bag ∙ c.loop-rounds.invariant.4

pub returns-then-is_clear-clause-held : goal.returns-then-is_clear-clause-held
returns-then-is_clear-clause-held g c = c.finish.ensures.held ∙ c.loop-rounds.invariant.5

pub returns-then-is_clear-clause-desk : goal.returns-then-is_clear-clause-desk
returns-then-is_clear-clause-desk g c = same_both c.args.desk.now c.loop-rounds.desk c.finish.new.desk c.loop-rounds.invariant.6 c.finish.ensures.desk

pub push_reserved-requires-2 : goal.push_reserved-requires-2
push_reserved-requires-2 g c =
    let l = c.loop-rounds in let s = l.invariant.0 in let xs = l.self.endings.items in
    let room : length (xs ++ l.top ∷ []) ≤ vec_capacity l.self.endings =
    fits c.args.domain.now l.desk (xs ++ l.top ∷ []) (vec_capacity l.self.endings) c.assert_invariant-2.ensures s.belongs.shape s.room
    (all_append l.desk xs l.top s.others s.ends s.apart) in
    let many = length-append xs (l.top ∷ []) in omega arith

pub returns-clause-carries : goal.returns-clause-carries
returns-clause-carries g c =
    let l = c.loop-rounds in let s = l.invariant.0 in let put = c.push_reserved-2 in
    record {
      belongs = s.belongs;
      ends = subst (AllEnd l.desk) (sym put.ensures.items) (all_append l.desk l.self.endings.items l.top s.others s.ends s.apart);
      room = subst (λ n. c.args.domain.now.shape.blocks ≤ n) (sym put.ensures.capacity) s.room;
    }

pub returns-clause-elsewhere : goal.returns-clause-elsewhere
returns-clause-elsewhere g c =
    subst (λ (zs : List (Ending g.row.V.Denot)). KeepsElsewhere c.args.desk.now c.args.self.now.endings.items c.loop-rounds.desk zs)
    (sym c.push_reserved-2.ensures.items) c.loop-rounds.invariant.1

pub returns-clause-rounds : goal.returns-clause-rounds
returns-clause-rounds g c =
    let i = c.loop-rounds.invariant.2 in (
      i.0,
      subst (λ (zs : List (Ending g.row.V.Denot)). AreRounds c.args.desk.now c.args.self.now.endings.items i.0 c.loop-rounds.desk zs)
          (sym c.push_reserved-2.ensures.items) i.1,
      i.2,
      i.3,
    )

pub returns-clause-none : goal.returns-clause-none
returns-clause-none g c = inl (omega (arith, c.loop-rounds-test.false))

pub returns-clause-parting : goal.returns-clause-parting
returns-clause-parting g c = c.loop-rounds.invariant.3

pub returns-clause-bag : goal.returns-clause-bag
returns-clause-bag g c = c.loop-rounds.invariant.4

pub returns-clause-held : goal.returns-clause-held
returns-clause-held g c = c.loop-rounds.invariant.5

pub returns-clause-desk : goal.returns-clause-desk
returns-clause-desk g c = c.loop-rounds.invariant.6

pub returns-in_err-top-clause-carries : goal.returns-in_err-top-clause-carries
returns-in_err-top-clause-carries g c =
    let p = c.pop.ensures in
    let e = popped_none c.args.self.now.endings.items c.pop.new.self.items c.pop.result _ _ p.items p.cases p.rest c.in_err-top.was in
    record {
      belongs = c.requires.carries.belongs;
      ends = subst (AllEnd c.args.desk.now) e.0 c.requires.carries.ends;
      room = subst (λ n. c.args.domain.now.shape.blocks ≤ n) (sym p.capacity) c.requires.carries.room;
    }

pub returns-in_err-top-clause-elsewhere : goal.returns-in_err-top-clause-elsewhere
returns-in_err-top-clause-elsewhere g c =
    let p = c.pop.ensures in
    let e = popped_none c.args.self.now.endings.items c.pop.new.self.items c.pop.result _ _ p.items p.cases p.rest c.in_err-top.was in
    let d = c.args.desk.now in let xs = c.args.self.now.endings.items in
    subst (λ (zs : List (Ending g.row.V.Denot)). KeepsElsewhere d xs d zs) e.0 (elsewhere_none d xs)

pub returns-in_err-top-clause-rounds : goal.returns-in_err-top-clause-rounds
returns-in_err-top-clause-rounds g c =
    let p = c.pop.ensures in
    let e = popped_none c.args.self.now.endings.items c.pop.new.self.items c.pop.result _ _ p.items p.cases p.rest c.in_err-top.was in
    ([], (refl, sym e.0), omega arith, rw c.from_residual.ensures refl)

pub returns-in_err-top-clause-none : goal.returns-in_err-top-clause-none
returns-in_err-top-clause-none g c =
    let p = c.pop.ensures in
    let e = popped_none c.args.self.now.endings.items c.pop.new.self.items c.pop.result _ _ p.items p.cases p.rest c.in_err-top.was in
    rw c.from_residual.ensures (inr e.1)

pub returns-in_err-top-clause-parting : goal.returns-in_err-top-clause-parting
returns-in_err-top-clause-parting g c = does_none IsParting c.args.desk.now
