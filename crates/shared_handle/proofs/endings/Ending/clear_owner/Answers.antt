use Rattle.std.proofs.Common.{◌≡◌, ℕ, ◌+◌, ◌<◌, cond, Option, sym, ap, ◌∙◌, subst, arith}
use Rattle.shared_handle.proofs.Prelude.{Block, endings_of, kind_of_member, Owner, Shape}
use Rattle.shared_handle.proofs.Beside.{cleared_still, left_of, more_of, out_apart}
use Rattle.shared_handle.specs.Endings.{IsLeftOf}
use Rattle.shared_handle.proofs.endings.Ending.clear_owner.Goals as goal

pub clear-held-requires-clause-member : goal.clear-held-requires-clause-member
clear-held-requires-clause-member g c =
    (subst (λ n. c.args.self.now.cleared < n) c.requires.ends.shape c.requires.some, c.requires.kind)

pub returns-clause-ends : goal.returns-clause-ends
returns-clause-ends g c =
    let x = c.args.self.now in let out = c.clear-held in let e = out.ensures in
    cleared_still c.args.desk.now out.new.desk x c.requires.ends e.desk (e.ending x.value c.requires.ends.ends) e.kept

pub returns-clause-stock : goal.returns-clause-stock
returns-clause-stock g c =
    let t = c.clear-held.ensures in let none : ◌≡◌ {A = ℕ} (cond c.clear-held.result.1.vacant 1 0) 0 = ap (λ y. cond y 1 0) t.kind in omega arith

pub returns-clause-clears : goal.returns-clause-clears
returns-clause-clears g c =
    let out = c.clear-held in let r = out.result in let e = out.ensures.emptied in let left = c.of_parts.result in
    let parts : IsLeftOf out.new.desk.shape r.0.word.block r.1.value left =
    subst (λ (z : Shape × Option Block). IsLeftOf z.0 z.1 r.1.value left)
    (λ i. (sym (out.ensures.desk.shape ∙ c.requires.domain.shape) i, c.block.ensures.block i)) c.of_parts.ensures in
    record {
      block = r.0.word.block;
      place = r.0.word.place;
      between = e.between;
      takes = e.takes;
      leaves = left_of e.between out.new.desk r.0.word.block r.0.word.place r.1 left e.lets parts;
    }

pub returns-clause-count : goal.returns-clause-count
returns-clause-count g c =
    let out = c.clear-held in let r = out.result in let e = out.ensures.emptied in let left = c.of_parts.result in
    let parts : IsLeftOf out.new.desk.shape r.0.word.block r.1.value left =
    subst (λ (z : Shape × Option Block). IsLeftOf z.0 z.1 r.1.value left)
    (λ i. (sym (out.ensures.desk.shape ∙ c.requires.domain.shape) i, c.block.ensures.block i)) c.of_parts.ensures in
    out.ensures.count ∙ ap (λ n. endings_of c.args.desk.now + n)
    (more_of e.between out.new.desk r.0.word.block r.0.word.place r.1 left e.lets parts)

pub returns-clause-apart : goal.returns-clause-apart
returns-clause-apart g c =
    let out = c.clear-held in let r = out.result in let left = c.of_parts.result in
    let parts : IsLeftOf out.new.desk.shape r.0.word.block r.1.value left =
    subst (λ (z : Shape × Option Block). IsLeftOf z.0 z.1 r.1.value left)
    (λ i. (sym (out.ensures.desk.shape ∙ c.requires.domain.shape) i, c.block.ensures.block i)) c.of_parts.ensures in
    out_apart c.args.desk.now out.new.desk c.args.self.now.block.0 c.args.self.now.cleared r.0.word.block r.0.word.place r.1 left out.ensures.emptied parts

pub returns-clause-beside : goal.returns-clause-beside
returns-clause-beside g c = returns-clause-apart g c c.args.self.now.block.0 c.requires.ends.ends.phase
