use Rattle.std.proofs.Common.{◌≡◌, ℕ, cond, is_some, Some, Option, sym, ap, subst, arith}
use Rattle.shared_handle.proofs.Prelude.{Block, LeavesWeakly, Place}
use Rattle.shared_handle.proofs.Beside.{weakly_of}
use Rattle.shared_handle.proofs.weaks.release_weak.Goals as goal
use Rattle.control_word.specs.HandleWords.{HandleNow}

pub returns-clause-event : goal.returns-clause-event
returns-clause-event g c =
    let d = c.args.desk.now in let t = c.leave in let e = t.new.desk in let word = c.into_word-word in let vacant = t.result.vacant in (
      vacant,
      subst (λ (y : HandleNow). LeavesWeakly d y.block y.place vacant e) word.ensures
          (subst (λ (y : Option Block × Option Place). LeavesWeakly d y.0 y.1 vacant e)
          (λ i. (c.in-Some.ensures.block i, c.place.ensures.place i))
          (weakly_of d e (Some c.in-Some.block) c.place.result t.result t.ensures.left)),
      t.ensures.stock,
    )

pub returns-clause-count : goal.returns-clause-count
returns-clause-count g c =
    let t = c.leave in
    let none : ◌≡◌ {A = ℕ} (cond (is_some t.result.value) 1 0) 0 = ap (λ (y : Option g.row.V.Denot). cond (is_some y) 1 0) t.ensures.left.1 in
    let count = t.ensures.count in omega arith
