use Rattle.std.proofs.Common.{◌≡◌, ap, subst, ◌∙◌, arith}
use Rattle.control_block.specs.Desks.{KeepsOtherEndings}
use Rattle.shared_handle.proofs.Beside.{others_kept}
use Rattle.shared_handle.proofs.Piles.{same_both, some_left}
use Rattle.control_word.specs.declared.place.Block.{Block}
use Rattle.handle_tests.proofs.parts.end_of.Goals as goal

pub loop-desk-init : goal.loop-desk-init
loop-desk-init g c =
    let first = c.clear-first in let next = c.clear-next in let up = c.clear-up in
    let b = c.args.ending.block.0 in let d = c.args.desk.now in
    let one = first.ensures.block in let two = next.ensures.block ∙ one in
    let both = others_kept d first.new.desk next.new.desk b first.ensures.endings
    (subst (λ (k : Block). KeepsOtherEndings first.new.desk k.0 next.new.desk) one next.ensures.endings) in (
      up.ensures.ends,
      up.ensures.block ∙ two,
      others_kept d next.new.desk up.new.desk b both
          (subst (λ (k : Block). KeepsOtherEndings next.new.desk k.0 up.new.desk) two up.ensures.endings),
      same_both d next.new.desk up.new.desk (same_both d first.new.desk next.new.desk first.ensures.desk next.ensures.desk) up.ensures.desk,
      up.ensures.bag ∙ (next.ensures.bag ∙ first.ensures.bag),
      up.ensures.held ∙ (next.ensures.held ∙ first.ensures.held),
    )

pub loop-desk-preserved : goal.loop-desk-preserved
loop-desk-preserved g c =
    let l = c.loop-desk in let i = l.invariant in let t = c.clear in let d = c.args.desk.now in (
      t.ensures.ends,
      t.ensures.block ∙ i.1,
      others_kept d l.desk t.new.desk c.args.ending.block.0 i.2
          (subst (λ (k : Block). KeepsOtherEndings l.desk k.0 t.new.desk) i.1 t.ensures.endings),
      same_both d l.desk t.new.desk i.3 t.ensures.desk,
      t.ensures.bag ∙ i.4,
      t.ensures.held ∙ i.5,
    )

pub returns-clause-endings : goal.returns-clause-endings
returns-clause-endings g c =
    let l = c.loop-desk in let end = c.finish-value in
    others_kept c.args.desk.now l.desk end.new.desk c.args.ending.block.0 l.invariant.2
    (subst (λ (k : Block). KeepsOtherEndings l.desk k.0 end.new.desk) l.invariant.1 end.ensures.endings)
