use Rattle.std.proofs.Common.{◌∷◌, refl}
use Rattle.shared_handle.proofs.Prelude.{Empty, IsParting, Last, Others}
use Rattle.shared_handle.proofs.AtOnce.{held_since, left_in_hand, left_stacked}
use Rattle.shared_handle.proofs.Goings.{does_both, left_does}
use Rattle.shared_handle.proofs.Piles.{carries_left, elsewhere_both, left_elsewhere, left_ends}
use Rattle.shared_handle.proofs.drops.drop_to_end.Goals as goal

pub end_at_once-requires : goal.end_at_once-requires
end_at_once-requires g c = record {
  stacked = left_stacked c.args.domain.now c.args.desk.now c.release.new.desk c.args.pile.now c.args.handle.block c.args.handle.place c.in-Last.ending
      c.requires.carries c.in-Last.ensures.keeps c.in-Last.ensures.left;
}

pub returns-in-Empty-clause-carries : goal.returns-in-Empty-clause-carries
returns-in-Empty-clause-carries g c =
    let d = c.args.desk.now in let t = c.release.new.desk in let p = c.args.pile.now in let e = c.in-Empty.ensures in
    carries_left c.args.domain.now d t p p Empty c.requires.carries e.keeps
    (left_ends d t c.args.handle.block c.args.handle.place Empty e.left) refl refl

pub returns-in-Empty-clause-elsewhere : goal.returns-in-Empty-clause-elsewhere
returns-in-Empty-clause-elsewhere g c =
    let d = c.args.desk.now in let t = c.release.new.desk in let xs = c.args.pile.now.endings.items in let e = c.in-Empty.ensures in
    left_elsewhere d t Empty xs xs e.keeps (left_ends d t c.args.handle.block c.args.handle.place Empty e.left) e.count refl

pub returns-in-Others-clause-carries : goal.returns-in-Others-clause-carries
returns-in-Others-clause-carries g c =
    let d = c.args.desk.now in let t = c.release.new.desk in let p = c.args.pile.now in let e = c.in-Others.ensures in
    carries_left c.args.domain.now d t p p Others c.requires.carries e.keeps
    (left_ends d t c.args.handle.block c.args.handle.place Others e.left) refl refl

pub returns-in-Others-clause-elsewhere : goal.returns-in-Others-clause-elsewhere
returns-in-Others-clause-elsewhere g c =
    let d = c.args.desk.now in let t = c.release.new.desk in let xs = c.args.pile.now.endings.items in let e = c.in-Others.ensures in
    left_elsewhere d t Others xs xs e.keeps (left_ends d t c.args.handle.block c.args.handle.place Others e.left) e.count refl

pub returns-in-Others-clause-parting : goal.returns-in-Others-clause-parting
returns-in-Others-clause-parting g c =
    left_does c.args.desk.now c.release.new.desk c.args.handle.block c.args.handle.place Others c.in-Others.ensures.left

pub returns-in-Last-clause-elsewhere : goal.returns-in-Last-clause-elsewhere
returns-in-Last-clause-elsewhere g c =
    let d = c.args.desk.now in let t = c.release.new.desk in let xs = c.args.pile.now.endings.items in let e = c.in-Last.ensures in
    let u = c.end_at_once in let x = c.in-Last.ending in
    elsewhere_both d t u.new.desk xs (x ∷ xs) u.new.self.endings.items
    (left_in_hand d t c.args.handle.block c.args.handle.place x xs e.keeps e.left e.count) u.ensures.elsewhere

pub returns-in-Last-clause-parting : goal.returns-in-Last-clause-parting
returns-in-Last-clause-parting g c =
    let d = c.args.desk.now in let t = c.release.new.desk in let u = c.end_at_once in
    does_both IsParting d t u.new.desk
    (left_does d t c.args.handle.block c.args.handle.place (Last c.in-Last.ending) c.in-Last.ensures.left) u.ensures.parting

pub returns-in-Empty-clause-latest : goal.returns-in-Empty-clause-latest
returns-in-Empty-clause-latest g c =
    let t = c.release.new.desk in let e = c.in-Empty.ensures in
    held_since c.args.desk.now t t c.args.handle.block c.args.handle.place Empty e.left e.bag refl (λ k p b has. refl)

pub returns-in-Others-clause-latest : goal.returns-in-Others-clause-latest
returns-in-Others-clause-latest g c =
    let t = c.release.new.desk in let e = c.in-Others.ensures in
    held_since c.args.desk.now t t c.args.handle.block c.args.handle.place Others e.left e.bag refl (λ k p b has. refl)

pub returns-in-Last-clause-latest : goal.returns-in-Last-clause-latest
returns-in-Last-clause-latest g c =
    let e = c.in-Last.ensures in let u = c.end_at_once in
    held_since c.args.desk.now c.release.new.desk u.new.desk c.args.handle.block c.args.handle.place (Last c.in-Last.ending) e.left e.bag u.ensures.bag
    u.ensures.latest
