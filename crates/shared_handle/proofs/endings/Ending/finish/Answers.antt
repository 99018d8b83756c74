use Rattle.std.proofs.Common.{sym, subst, arith}
use Rattle.shared_handle.proofs.Prelude.{AddsEvent, latest_of}
use Rattle.control_word.specs.declared.model.event.Event.TheVariants.{Finish}
use Rattle.shared_handle.proofs.endings.Ending.finish.Goals as goal

pub returns-clause-event : goal.returns-clause-event
returns-clause-event g c =
    let d = c.args.desk.now in let x = c.args.self in let t = c.finish-value in let v = c.requires.ends.ends in (
      t.result.1,
      subst (λ (y : g.row.V.Denot). AddsEvent d (Finish (latest_of d x.block.0) t.result.1 y) t.new.desk) (sym (t.ensures.value x.value v))
          (t.ensures.event x.value v),
      t.ensures.stock,
    )

pub finish-value-requires-clause-clear : goal.finish-value-requires-clause-clear
finish-value-requires-clause-clear g c =
    λ m low. let e = c.requires.ends.shape in let all = c.requires.clear in c.requires.ends.cleared m (omega arith)
