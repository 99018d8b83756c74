use Rattle.std.proofs.Common.{◌≡◌, length, sym, ap, ◌∙◌, arith}
use Rattle.script_runner.proofs.Prelude.{asked_by_all, IsAssignmentFor, length-map, part_in}
use Rattle.script_runner.proofs.Prelude.{program_in}
use Rattle.std.proofs.lemmas.List.{length-replicate}
use Rattle.ownership_ledger.specs.Now.{new_share}
use Rattle.script_runner.proofs.Assigning.{same_many}
use Rattle.script_runner.proofs.Reporting.{reported}
use Rattle.script_runner.proofs.runs.run_script.Goals as goal

pub perform-worked-requires-clause-many : goal.perform-worked-requires-clause-many
perform-worked-requires-clause-many g c κs within =
    let threads = c.args.script.now.threads in
    let parts = program_in threads in
    ap length c.in_ok-book.ensures.shares
    ∙ (length-replicate c.threads.result (new_share c.in_ok-book.book.id c.threads.result)
    ∙ (c.threads.ensures.number
    ∙ sym (same_many (IsAssignmentFor (asked_by_all parts)) parts c.in_ok-assignments.assignments.items c.in_ok-assignments.ensures.each
    ∙ length-map threads part_in)))

pub perform-worked-requires-clause-room : goal.perform-worked-requires-clause-room
perform-worked-requires-clause-room g c κs within =
    let threads = c.args.script.now.threads in
    let parts = program_in threads in
    let many : length c.in_ok-assignments.assignments.items ≡ length threads =
    same_many (IsAssignmentFor (asked_by_all parts)) parts c.in_ok-assignments.assignments.items c.in_ok-assignments.ensures.each
    ∙ length-map threads part_in in
    let items = c.in_ok-assignments.assignments.ok.0 in
    let long = c.len.ensures in
    let lines = c.in-Ok.ensures.capacity in
    let number = c.threads.ensures.number in
    let shares = c.in_ok-book.ensures.room in
    (c.in-Ok.ensures.items, omega (arith, items, long, lines), omega (arith, many, number, shares))

pub returns-clause-report : goal.returns-clause-report
returns-clause-report g c =
    let totals = c.gather-totals.ensures in
    reported c.args.script.now _ _ _ c.perform-worked.new.shares.items c.in-Ok-worked.ensures.run (record {
      made = totals.made;
      ended = totals.ended;
    })
