use Rattle.std.proofs.Common.{◌≡◌, ◌+◌, ◌≤◌, ◌∷◌, ◌++◌, length, vec_capacity, [], sym, refl, subst, arith}
use Rattle.std.proofs.Common.{length-append}
use Rattle.shared_handle.proofs.Prelude.{AllEnd, IsParting}
use Rattle.control_block.proofs.Latest.{calls_keep_latest}
use Rattle.shared_handle.proofs.AtOnce.{latest_both, looked_elsewhere, looked_on, onto_pile}
use Rattle.shared_handle.proofs.Goings.{does_both, does_one}
use Rattle.shared_handle.proofs.PiledEndings.{all_append}
use Rattle.shared_handle.proofs.Piles.{elsewhere_both, finished, finished_elsewhere, fits}
use Rattle.shared_handle.proofs.pile.Pile.end_at_once.Goals as goal

pub returns-then-clear_empties-clause-carries : goal.returns-then-clear_empties-clause-carries
returns-then-clear_empties-clause-carries g c =
    let d = c.args.desk.now in let t = c.clear_empties in let e = t.ensures in let u = c.finish in let x = t.new.self in
    finished c.args.domain.now t.new.desk u.new.desk c.args.self.now x
    (looked_on c.args.domain.now d t.new.desk c.args.self.now c.args.ending x c.requires.stacked e.endings e.object.0 e.ends e.desk)
    u.ensures.endings u.ensures.desk

pub returns-then-clear_empties-clause-elsewhere : goal.returns-then-clear_empties-clause-elsewhere
returns-then-clear_empties-clause-elsewhere g c =
    let d = c.args.desk.now in let t = c.clear_empties in let e = t.ensures in let u = c.finish in let x = t.new.self in
    let xs = c.args.self.now.endings.items in
    elsewhere_both d t.new.desk u.new.desk (c.args.ending ∷ xs) (x ∷ xs) xs
    (looked_elsewhere d t.new.desk c.args.ending x xs e.endings e.count e.object.0 e.ends)
    (finished_elsewhere t.new.desk u.new.desk x xs u.ensures.endings u.ensures.count)

pub returns-then-clear_empties-clause-ends : goal.returns-then-clear_empties-clause-ends
returns-then-clear_empties-clause-ends g c =
    let t = c.clear_empties in let u = c.finish.ensures in (
      record {
        between = t.new.desk;
        clear = t.new.self;
        clears = t.ensures.clears;
        finish = record {
          clear = t.ensures.all c.if-clear_empties.true;
          value = u.value.0;
          vacant = u.event.0;
          event = u.event.1;
          stock = u.event.2;
        };
      },
      refl,
    )

pub returns-then-clear_empties-clause-parting : goal.returns-then-clear_empties-clause-parting
returns-then-clear_empties-clause-parting g c =
    let t = c.clear_empties in let u = c.finish in
    does_both IsParting c.args.desk.now t.new.desk u.new.desk t.ensures.parting
    (does_one IsParting t.new.desk u.new.desk _ u.ensures.event.1 tt)

pub push_reserved-requires : goal.push_reserved-requires
push_reserved-requires g c =
    let t = c.clear_empties in let e = t.ensures in let xs = c.args.self.now.endings.items in
    let s = looked_on c.args.domain.now c.args.desk.now t.new.desk c.args.self.now c.args.ending t.new.self c.requires.stacked e.endings e.object.0
    e.ends e.desk in
    let room : length (xs ++ t.new.self ∷ []) ≤ vec_capacity c.args.self.now.endings =
    fits c.args.domain.now t.new.desk (xs ++ t.new.self ∷ []) (vec_capacity c.args.self.now.endings) c.assert_invariant.ensures s.belongs.shape s.room
    (all_append t.new.desk xs t.new.self s.others s.ends s.apart) in
    let many = length-append xs (t.new.self ∷ []) in omega arith

pub returns-clause-carries : goal.returns-clause-carries
returns-clause-carries g c =
    let t = c.clear_empties in let e = t.ensures in let put = c.push_reserved in
    let s = looked_on c.args.domain.now c.args.desk.now t.new.desk c.args.self.now c.args.ending t.new.self c.requires.stacked e.endings e.object.0
    e.ends e.desk in
    record {
      belongs = s.belongs;
      ends = subst (AllEnd t.new.desk) (sym put.ensures.items)
          (all_append t.new.desk c.args.self.now.endings.items t.new.self s.others s.ends s.apart);
      room = subst (λ n. c.args.domain.now.shape.blocks ≤ n) (sym put.ensures.capacity) s.room;
    }

pub returns-clause-elsewhere : goal.returns-clause-elsewhere
returns-clause-elsewhere g c =
    let d = c.args.desk.now in let t = c.clear_empties in let e = t.ensures in let x = t.new.self in
    let xs = c.args.self.now.endings.items in let ys = c.push_reserved.new.self.items in
    elsewhere_both d t.new.desk t.new.desk (c.args.ending ∷ xs) (x ∷ xs) ys
    (looked_elsewhere d t.new.desk c.args.ending x xs e.endings e.count e.object.0 e.ends)
    (onto_pile t.new.desk x xs ys c.push_reserved.ensures.items)

pub returns-then-clear_empties-clause-latest : goal.returns-then-clear_empties-clause-latest
returns-then-clear_empties-clause-latest g c =
    let t = c.clear_empties in let u = c.finish in
    latest_both c.args.desk.now t.new.desk u.new.desk t.ensures.bag t.ensures.latest (calls_keep_latest t.new.desk _ u.new.desk u.ensures.event.1)
