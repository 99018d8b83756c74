use Rattle.std.proofs.Common.{◌≡◌, ℕ, ◌+◌, cond, Some, Option, sym, ap, ◌∙◌, subst, arith}
use Rattle.shared_handle.proofs.Prelude.{Block, endings_of, IsLeft, Place, Shape}
use Rattle.shared_handle.proofs.Beside.{left_apart, left_of, more_of}
use Rattle.shared_handle.specs.Endings.{IsLeftOf}
use Rattle.shared_handle.proofs.shares.release.Goals as goal
use Rattle.control_word.specs.HandleWords.{HandleNow}

pub returns-clause-left : goal.returns-clause-left
returns-clause-left g c =
    let d = c.args.desk.now in let h = c.args.handle in let t = c.leave-released in let e = t.new.desk in let left = c.of_parts.result in
    let word = c.into_word-word in let block = c.in-Some.block in
    let same : Some block ≡ h.block = c.in-Some.ensures.block ∙ ap (λ (r : HandleNow). r.block) word.ensures in
    let place : c.place.result ≡ h.place = c.place.ensures.place ∙ ap (λ (r : HandleNow). r.place) word.ensures in
    subst (λ (b : Option Block). IsLeft d b h.place left e) same
    (subst (λ (p : Option Place). IsLeft d (Some block) p left e) place
    (left_of d e (Some block) c.place.result t.result left t.ensures.left
    (subst (λ (z : Shape). IsLeftOf z (Some block) t.result.value left) (sym (t.ensures.desk.shape ∙ c.requires.domain.shape)) c.of_parts.ensures)))

pub returns-clause-keeps : goal.returns-clause-keeps
returns-clause-keeps g c =
    let t = c.leave-released.ensures in let none : ◌≡◌ {A = ℕ} (cond c.leave-released.result.vacant 1 0) 0 = ap (λ y. cond y 1 0) t.left.1 in
    let stock = t.stock in
    record {
      domain = t.desk.domain;
      shape = t.desk.shape;
      name = t.desk.name;
      allowance = t.desk.allowance;
      stock = omega arith;
      endings = t.endings;
    }

pub returns-clause-count : goal.returns-clause-count
returns-clause-count g c =
    let d = c.args.desk.now in let t = c.leave-released in
    t.ensures.count ∙ ap (λ n. endings_of d + n)
    (more_of d t.new.desk (Some c.in-Some.block) c.place.result t.result c.of_parts.result t.ensures.left
    (subst (λ (z : Shape). IsLeftOf z (Some c.in-Some.block) t.result.value c.of_parts.result) (sym (t.ensures.desk.shape ∙ c.requires.domain.shape))
    c.of_parts.ensures))

pub returns-clause-apart : goal.returns-clause-apart
returns-clause-apart g c =
    let h = c.args.handle in left_apart c.args.desk.now c.leave-released.new.desk h.block h.place c.of_parts.result (returns-clause-left g c)
