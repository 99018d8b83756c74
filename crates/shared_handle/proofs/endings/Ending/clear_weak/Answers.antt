use Rattle.std.proofs.Common.{◌≡◌, ℕ, ◌<◌, cond, is_some, Option, ap, subst, arith}
use Rattle.shared_handle.proofs.Prelude.{Block, kind_of_member, Weak}
use Rattle.shared_handle.proofs.Beside.{cleared_still, gone_of, weak_beside, weak_none, weakly_of}
use Rattle.shared_handle.specs.Endings.{IsLeftOf}
use Rattle.shared_handle.proofs.endings.Ending.clear_weak.Goals as goal

pub clear-held-requires-clause-member : goal.clear-held-requires-clause-member
clear-held-requires-clause-member g c =
    (subst (λ n. c.args.self.now.cleared < n) c.requires.ends.shape c.requires.some, c.requires.kind)

pub returns-clause-ends : goal.returns-clause-ends
returns-clause-ends g c =
    let x = c.args.self.now in let out = c.clear-held in let e = out.ensures in
    cleared_still c.args.desk.now out.new.desk x c.requires.ends e.desk (e.ending x.value c.requires.ends.ends) e.kept

pub returns-clause-clears : goal.returns-clause-clears
returns-clause-clears g c =
    let out = c.clear-held in let r = out.result in let e = out.ensures.emptied in
    record {
      block = r.0.word.block;
      place = r.0.word.place;
      between = e.between;
      takes = e.takes;
      vacant = r.1.vacant;
      leaves = weakly_of e.between out.new.desk r.0.word.block r.0.word.place r.1 e.lets;
      told = gone_of c.args.domain.now.shape r.0.word.block r.1 c.of_parts.result out.ensures.kind
          (subst (λ (b : Option Block). IsLeftOf c.args.domain.now.shape b r.1.value c.of_parts.result) c.block.ensures.block c.of_parts.ensures);
      stock = out.ensures.stock;
    }

pub returns-clause-count : goal.returns-clause-count
returns-clause-count g c =
    let out = c.clear-held in let x = c.args.self.now in
    let none : ◌≡◌ {A = ℕ} (cond (is_some out.result.1.value) 1 0) 0 = ap (λ (y : Option g.row.V.Denot). cond (is_some y) 1 0) out.ensures.kind in
    let few = weak_none c.args.desk.now out.new.desk x x.cleared c.of_parts.result (returns-clause-clears g c) in
    let u = out.ensures.count in omega arith

pub returns-clause-beside : goal.returns-clause-beside
returns-clause-beside g c =
    let x = c.args.self.now in
    weak_beside c.args.desk.now c.clear-held.new.desk x x.cleared c.of_parts.result (returns-clause-clears g c) x.block.0

pub returns-clause-apart : goal.returns-clause-apart
returns-clause-apart g c =
    let x = c.args.self.now in
    λ k ends. weak_beside c.args.desk.now c.clear-held.new.desk x x.cleared c.of_parts.result (returns-clause-clears g c) k
