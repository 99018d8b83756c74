use Rattle.std.proofs.Common.{◌∙◌, subst}
use Rattle.shared_handle.proofs.Prelude.{Block, Empty, IsParting, KeepsOtherEndings}
use Rattle.shared_handle.proofs.AtOnce.{latest_both, one_look}
use Rattle.shared_handle.proofs.Beside.{others_kept}
use Rattle.shared_handle.proofs.Goings.{clearing_does, does_both}
use Rattle.shared_handle.proofs.Piles.{same_both, some_left}
use Rattle.shared_handle.proofs.endings.Ending.clear_empties.Goals as goal

pub returns-then-not-clear_empty-clause-endings : goal.returns-then-not-clear_empty-clause-endings
returns-then-not-clear_empty-clause-endings g c =
    let l = c.loop-self in let i = l.invariant in
    others_kept c.args.desk.now l.desk c.clear_empty.new.desk c.args.self.now.block.0 i.8
    (subst (λ (b : Block). KeepsOtherEndings l.desk b.0 c.clear_empty.new.desk) i.2 c.clear_empty.ensures.endings)

pub loop-self-preserved : goal.loop-self-preserved
loop-self-preserved g c =
    let d = c.args.desk.now in let l = c.loop-self in let i = l.invariant in let t = c.clear_empty in let e = t.ensures in
    let cleared = e.clears c.if-not-clear_empty.false in (
      e.ends,
      one_look d l.desk t.new.desk c.args.self.now l.self t.new.self i.1
          (some_left l.self c.is_clear.result i.0.few c.is_clear.ensures.1 c.loop-self-test.true) cleared (e.noted c.if-not-clear_empty.false)
          e.bag,
      e.object.0 ∙ i.2,
      e.object.1 ∙ i.3,
      does_both IsParting d l.desk t.new.desk i.4 (clearing_does l.desk t.new.desk l.self Empty cleared),
      e.bag ∙ i.5,
      e.held ∙ i.6,
      same_both d l.desk t.new.desk i.7 e.desk,
      others_kept d l.desk t.new.desk c.args.self.now.block.0 i.8
          (subst (λ (b : Block). KeepsOtherEndings l.desk b.0 t.new.desk) i.2 e.endings),
      e.count ∙ i.9,
      latest_both d l.desk t.new.desk i.5 i.10 e.latest,
    )

pub returns-then-not-clear_empty-clause-latest : goal.returns-then-not-clear_empty-clause-latest
returns-then-not-clear_empty-clause-latest g c =
    let l = c.loop-self in let i = l.invariant in
    latest_both c.args.desk.now l.desk c.clear_empty.new.desk i.5 i.10 c.clear_empty.ensures.latest
