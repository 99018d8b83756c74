use Rattle.std.proofs.Common.{◌≤◌, ◌<◌, ℕ, Contains, List, length, subst, sym, true≢false}
use Rattle.script_orders.specs.Sorting.{lines_in}
use Rattle.script_orders.proofs.Looking.{none_next, none_of_all}
use Rattle.script_orders.proofs.finding.none_tells.Goals as goal
use Rattle.script_orders.proofs.finding.none_tells.Goals.{in-Some+else-has_line, in_default}

pub loop-index-preserved : goal.loop-index-preserved
loop-index-preserved c =
    elim c.match-get_index.branch [
      | in-Some+else-has_line w ↦
          none_next c.args.outcomes.now.found.entries c.loop-index.index (w.in-Some.text.now, w.in-Some.field-0-1.now)
          c.args.line.now (sym w.in-Some.ensures.entry) c.loop-index.invariant
          (subst (λ (t : List ℕ). Contains (lines_in t) c.args.line.now → ⊥) w.as_slice.ensures.value
          (w.has_line.ensures.none w.if-has_line.false))
      | in_default w ↦
          absurd (true≢false (sym (w.in_default.ensures.found.1 (subst (λ (n : ℕ). c.loop-index.index < n)
          c.len-index-end.ensures.len c.loop-index-test.true))))
    ]

pub returns : goal.returns
returns c is_true =
    let all : length c.args.outcomes.now.found.entries ≤ c.loop-index.index =
    subst (λ (n : ℕ). n ≤ c.loop-index.index) c.len-index-end.ensures.len c.loop-index-test.false in
    none_of_all c.args.outcomes.now.found.entries c.loop-index.index c.args.line.now all c.loop-index.invariant
