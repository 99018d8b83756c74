use Rattle.std.proofs.Common.{◌≡◌, ℕ, [], filter, subst, arith}
use Rattle.std.specs.List.{flat_map}
use Rattle.step_threads.specs.Stocks.{from}
use Rattle.text_lines.specs.Lines.{ended}
use Rattle.script_stepper.proofs.ClosingLemmas.{numbered_then}
use Rattle.script_stepper.proofs.LineLemmas.{lines_then}
use Rattle.script_orders.specs.Sorting.{is_closing, lines_in, thread_lines}
use Rattle.script_orders.proofs.threads.by_threads.Goals as goal

pub loop-before-preserved : goal.loop-before-preserved
loop-before-preserved c =
    numbered_then (thread_lines (lines_in c.args.text.now)) c.loop-before.before [] c.loop-before.sorted.items
    c.put_thread.new.sorted.items c.loop-before.invariant c.in_ok-put_thread.ensures

pub returns : goal.returns
returns c =
    let lines = lines_in c.args.text.now in
    let all : c.loop-before.before ≡ 64 = omega arith in
    lines_then (flat_map (thread_lines lines) (from 1 64)) (filter is_closing lines) []
    c.loop-before.sorted.items c.put_closing.new.sorted.items
    (subst (λ (n : ℕ). c.loop-before.sorted.items ≡ ended (flat_map (thread_lines lines) (from 1 n))) all
    c.loop-before.invariant)
    c.in_ok-put_closing.ensures
