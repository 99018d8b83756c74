use Rattle.std.proofs.Common.{◌≡◌, ◌≢◌, rules}
use Rattle.script_orders.proofs.Cutting.{first_line, later_line, line_before, line_nowhere}
use Rattle.script_orders.proofs.threads.has_line.Goals as goal

pub loop-first-init : goal.loop-first-init
loop-first-init c = record { has = λ h. h; none = λ h. h }

pub loop-first-preserved : goal.loop-first-preserved
loop-first-preserved c =
    let other : c.in-Some.first.now ≢ c.args.line.now = search rules in
    record {
      has = λ there.
          c.loop-first.invariant.has
          (line_before c.loop-first.rest.now c.in-Some.first.now c.in-Some.after.now c.args.line.now c.in-Some.ensures there);
      none = λ there.
          later_line c.loop-first.rest.now c.in-Some.first.now c.in-Some.after.now c.args.line.now c.in-Some.ensures other
          (c.loop-first.invariant.none there);
    }

pub returns-then-eq-clause-has : goal.returns-then-eq-clause-has
returns-then-eq-clause-has c is_true =
    let same : c.in-Some.first.now ≡ c.args.line.now = search rules in
    c.loop-first.invariant.has
    (first_line c.loop-first.rest.now c.in-Some.first.now c.in-Some.after.now c.args.line.now c.in-Some.ensures same)

pub returns-clause-none : goal.returns-clause-none
returns-clause-none c is_false there =
    line_nowhere c.loop-first.rest.now c.args.line.now c.in_default.ensures (c.loop-first.invariant.none there)
