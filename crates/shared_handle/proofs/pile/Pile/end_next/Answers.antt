use Rattle.std.proofs.Common.{◌≡◌, ℕ, suc, ◌+◌, ◌<◌, IsTrue, List, ◌∷◌, sym, refl, ap, ◌∙◌, subst, arith}
use Rattle.shared_handle.proofs.Prelude.{Ending, IsParting, KeepsElsewhere}
use Rattle.shared_handle.proofs.Goings.{does_both, does_none, does_one}
use Rattle.shared_handle.proofs.PiledEndings.{popped}
use Rattle.shared_handle.proofs.Piles.{elsewhere_both, elsewhere_none, finished, finished_elsewhere}
use Rattle.shared_handle.proofs.Piles.{from_top, same_both, same_desk, some_left}
use Rattle.shared_handle.proofs.Rounds.{popped_none}
use Rattle.shared_handle.proofs.pile.Pile.end_next.Goals as goal

pub loop-self-init : goal.loop-self-init
loop-self-init g c =
    let d = c.args.desk.now in let x = c.in_ok-ending.ending in (
      popped c.args.domain.now d c.args.self.now record { endings = c.pop.new.self } x c.requires.carries c.in_ok-ending.ensures.items
          c.pop.ensures.capacity,
      elsewhere_none d (x ∷ c.pop.new.self.items),
      (0, refl),
      does_none IsParting d,
      refl,
      refl,
      same_desk d,
    )

pub clear_once-requires : goal.clear_once-requires
clear_once-requires g c =
    let i = c.loop-self.invariant in let x = c.loop-self.ending in
    record {
      stacked = i.0;
      some = some_left x c.is_clear.result i.0.ends.few c.is_clear.ensures.1 c.loop-self-test.true;
    }

pub loop-self-preserved : goal.loop-self-preserved
loop-self-preserved g c =
    let l = c.loop-self in let i = l.invariant in let t = c.clear_once in let e = t.ensures in
    let d = c.args.desk.now in let below = c.pop.new.self.items in let top = c.in_ok-ending.ending in (
      e.stacked,
      elsewhere_both d l.desk t.new.desk (top ∷ below) (l.ending ∷ l.self.endings.items) (t.new.ending ∷ t.new.self.endings.items) i.1 e.elsewhere,
      (suc i.2.0, (record { desk = l.desk; pile = l.self.endings.items; ending = l.ending }, i.2.1, e.clears)),
      does_both IsParting d l.desk t.new.desk i.3 e.parting,
      e.bag ∙ i.4,
      e.held ∙ i.5,
      same_both d l.desk t.new.desk i.6 e.desk,
    )

pub loop-self-smaller : goal.loop-self-smaller
loop-self-smaller g c =
    let e = c.clear_once.ensures.clears in let some = e.some in
    let more = ap (λ (x : Ending g.row.V.Denot). x.cleared) e.ending in let many = ap (λ (x : Ending g.row.V.Denot). x.members) e.ending in
    omega arith

pub finish-requires : goal.finish-requires
finish-requires g c =
    let i = c.loop-self.invariant in
    record { domain = i.0.belongs; ends = i.0.ends; clear = c.is_clear.ensures.0 c.loop-self-test.false }

pub returns-clause-carries : goal.returns-clause-carries
returns-clause-carries g c =
    let l = c.loop-self in let e = c.finish.ensures in
    finished c.args.domain.now l.desk c.finish.new.desk l.self l.ending l.invariant.0 e.endings e.desk

pub returns-clause-elsewhere : goal.returns-clause-elsewhere
returns-clause-elsewhere g c =
    let l = c.loop-self in let e = c.finish.ensures in let d = c.args.desk.now in let top = c.in_ok-ending.ending in
    let below = c.pop.new.self.items in let zs = l.self.endings.items in
    from_top d c.finish.new.desk top below c.args.self.now.endings.items zs c.in_ok-ending.ensures.items
    (elsewhere_both d l.desk c.finish.new.desk (top ∷ below) (l.ending ∷ zs) zs l.invariant.1
    (finished_elsewhere l.desk c.finish.new.desk l.ending zs e.endings e.count))

pub returns-clause-ended : goal.returns-clause-ended
returns-clause-ended g c =
    let l = c.loop-self in let i = l.invariant.2 in let e = c.finish.ensures in
    record {
      below = c.pop.new.self.items;
      top = c.in_ok-ending.ending;
      were = c.in_ok-ending.ensures.items;
      many = i.0;
      after = record { desk = l.desk; pile = l.self.endings.items; ending = l.ending };
      clears = i.1;
      finish = record {
        clear = c.is_clear.ensures.0 c.loop-self-test.false;
        value = e.value.0;
        vacant = e.event.0;
        event = e.event.1;
        stock = e.event.2;
      };
      are = refl;
    }

pub returns-clause-parting : goal.returns-clause-parting
returns-clause-parting g c =
    let l = c.loop-self in
    does_both IsParting c.args.desk.now l.desk c.finish.new.desk l.invariant.3
    (does_one IsParting l.desk c.finish.new.desk _ c.finish.ensures.event.1 tt)

pub returns-clause-bag : goal.returns-clause-bag
returns-clause-bag g c = c.finish.ensures.bag ∙ c.loop-self.invariant.4

pub returns-clause-held : goal.returns-clause-held
returns-clause-held g c = c.finish.ensures.held ∙ c.loop-self.invariant.5

pub returns-clause-desk : goal.returns-clause-desk
returns-clause-desk g c = same_both c.args.desk.now c.loop-self.desk c.finish.new.desk c.loop-self.invariant.6 c.finish.ensures.desk

pub returns-in_err-ending-clause-elsewhere : goal.returns-in_err-ending-clause-elsewhere
returns-in_err-ending-clause-elsewhere g c =
    let p = c.pop.ensures in
    let e = popped_none c.args.self.now.endings.items c.pop.new.self.items c.pop.result _ _ p.items p.cases p.rest c.in_err-ending.was in
    let d = c.args.desk.now in let xs = c.args.self.now.endings.items in
    subst (λ (zs : List (Ending g.row.V.Denot)). KeepsElsewhere d xs d zs) e.0 (elsewhere_none d xs)

pub returns-in_err-ending-clause-parting : goal.returns-in_err-ending-clause-parting
returns-in_err-ending-clause-parting g c = does_none IsParting c.args.desk.now
