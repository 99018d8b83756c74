use Rattle.std.proofs.Common.{◌∙◌, ◌<◌, ◌+◌, ◌++◌, ℕ, List, ap, subst, sym, true≢false}
use Rattle.std.specs.Global.{Vec}
use Rattle.script_orders.specs.Orders.{head_line}
use Rattle.script_orders.proofs.Numbering.{told_next}
use Rattle.script_orders.proofs.report.put_outcomes.Goals as goal
use Rattle.script_orders.proofs.report.put_outcomes.Goals.{in-Some+in_ok-put_head+in_ok-extend_from_slice, in_default}

pub loop-index-preserved : goal.loop-index-preserved
loop-index-preserved c =
    elim c.match-get_index.branch [
      | in-Some+in_ok-put_head+in_ok-extend_from_slice w ↦
          told_next c.args.outcomes.now.found.entries c.loop-index.index
          (w.in-Some.outcome.now, w.in-Some.list.now) c.args.text.now.items
          c.loop-index.text.items w.put_head.new.text.items c.match-get_index.text.items
          (sym w.in-Some.ensures.entry) c.loop-index.invariant
          (w.in_ok-put_head.ensures
          ∙ ap (λ (l : List ℕ). c.loop-index.text.items ++ head_line (c.loop-index.index + 1) l)
          w.as_slice.ensures.value)
          (ap (λ (v : Vec ℕ). v.items) w.text-is ∙ w.in_ok-extend_from_slice.ensures.items
          ∙ ap (λ (l : List ℕ). w.put_head.new.text.items ++ l) w.as_slice-in-Some.ensures.value)
      | in_default w ↦
          absurd (true≢false (sym (w.in_default.ensures.found.1 (subst (λ (n : ℕ). c.loop-index.index < n)
          c.len-index-end.ensures.len c.loop-index-test.true))))
    ]
