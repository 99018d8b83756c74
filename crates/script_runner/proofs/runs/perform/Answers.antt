use Rattle.std.proofs.Common.{◌≡◌, ℕ, ◌/◌, length, sym, refl, ap, ◌∙◌, subst, arith}
use Rattle.script_runner.proofs.Prelude.{asked_by_all, HasAssignment, HasScriptMembers, HasTextCells}
use Rattle.script_runner.proofs.Prelude.{IsAssignmentFor, length-map, part_in, program_in, Share}
use Rattle.control_word.specs.Layout.{IsWithinLimits}
use Rattle.script_runner.proofs.Assigning.{all_ready, same_many}
use Rattle.script_runner.proofs.Lending.{all_need, has_shares, only_memory}
use Rattle.script_runner.proofs.Reporting as reporting
use Rattle.script_runner.proofs.runs.perform.Goals as goal

pub run_workers_open-worked-requires-clause-needs : goal.run_workers_open-worked-requires-clause-needs
run_workers_open-worked-requires-clause-needs g c κs within =
    all_need {G = g.row.G.Denot} c.args.book.now.id c.shape_of-shape.result _ c.args.assignments.items c.assign.new.workers.items refl (omega arith)
    (subst HasTextCells (sym c.shape_of-shape.ensures.shape) (omega arith, omega arith))
    (subst HasScriptMembers (sym c.shape_of-shape.ensures.shape) (refl, refl)) c.assign.ensures.each

pub collect-requires-clause-shares : goal.collect-requires-clause-shares
collect-requires-clause-shares g c =
    let worked = c.run_workers_open-worked.ensures in
    let sole = worked.sole (λ w x t u does. does.1) in
    let many = reporting.workers_left {G = g.row.G.Denot} c.args.book.now.id c.args.assignments.items _ _ c.assign.new.workers.items
    c.run_workers_open-worked.new.workers.items c.run_workers_open-worked.result c.assign.ensures.each worked.works worked.kept sole in
    let room = c.requires.room.2 in
    let kept = c.assign.ensures.room in (c.assign.ensures.none, omega (arith, many, room, kept))

pub collect-requires-clause-lines : goal.collect-requires-clause-lines
collect-requires-clause-lines g c =
    let worked = c.run_workers_open-worked.ensures in
    let sole = worked.sole (λ w x t u does. does.1) in
    let many = reporting.workers_left {G = g.row.G.Denot} c.args.book.now.id c.args.assignments.items _ _ c.assign.new.workers.items
    c.run_workers_open-worked.new.workers.items c.run_workers_open-worked.result c.assign.ensures.each worked.works worked.kept sole in
    let room = c.requires.room.1 in (c.requires.room.0, omega (arith, many, room))

pub returns-clause-shares : goal.returns-clause-shares
returns-clause-shares g c =
    let worked = c.run_workers_open-worked.ensures in
    let sole = worked.sole (λ w x t u does. does.1) in
    (reporting.shares_left {G = g.row.G.Denot} c.args.book.now.id c.args.assignments.items _ _ c.assign.new.workers.items
    c.run_workers_open-worked.new.workers.items c.run_workers_open-worked.result c.assign.ensures.each worked.works worked.kept sole
    c.collect.new.shares.items c.collect.ensures.shares).0

pub returns-clause-many : goal.returns-clause-many
returns-clause-many g c =
    let worked = c.run_workers_open-worked.ensures in
    let sole = worked.sole (λ w x t u does. does.1) in
    (reporting.shares_left {G = g.row.G.Denot} c.args.book.now.id c.args.assignments.items _ _ c.assign.new.workers.items
    c.run_workers_open-worked.new.workers.items c.run_workers_open-worked.result c.assign.ensures.each worked.works worked.kept sole
    c.collect.new.shares.items c.collect.ensures.shares).1
    ∙ sym c.requires.many

pub returns-clause-run : goal.returns-clause-run
returns-clause-run g c =
    let s = c.args.script.now in
    let had = c.assign.new.workers.items in
    reporting.performed_as {G = g.row.G.Denot} s c.shape_of-shape.result _ had c.run_workers_open-worked.new.workers.items
    c.run_workers_open-worked.result c.collect.new.lines.items c.collect.new.shares.items
    (reporting.in_shape s c.blocks-3.result c.threads-threads.result c.shape_of-shape.result c.shape_of-shape.ensures.shape
    c.blocks-3.ensures.number c.threads-threads.ensures.number)
    c.requires.objects
    (all_ready {G = g.row.G.Denot} (asked_by_all (program_in s.threads)) c.args.book.now.id (program_in s.threads) c.args.assignments.items had
    c.requires.assignments c.assign.ensures.each)
    c.run_workers_open-worked.ensures.works
    (reporting.as_share s _ c.blocks-2.result c.threads-threads.result refl c.blocks-2.ensures.number c.threads-threads.ensures.number)
    c.collect.ensures.lines c.collect.ensures.shares

pub returns-clause-refused : goal.returns-clause-refused
returns-clause-refused g c =
    let worked = c.run_workers_open-worked.ensures in
    let threads = c.args.script.now.threads in
    let parts = program_in threads in
    let has = c.args.assignments.items in
    let had = c.assign.new.workers.items in
    let many : length had ≡ c.threads-threads.result =
    same_many (HasAssignment {G = g.row.G.Denot} c.args.book.now.id) has had c.assign.ensures.each
    ∙ (same_many (IsAssignmentFor (asked_by_all parts)) parts has c.requires.assignments
    ∙ (length-map threads part_in ∙ sym c.threads-threads.ensures.number)) in
    let each = ap {B = ℕ} (λ k. k / c.threads-threads.result) (c.blocks-2.ensures.number ∙ sym c.blocks-3.ensures.number) in
    let share : Share = record { slots = 36; allowance = 65535; blocks = c.blocks-2.result / c.threads-threads.result } in
    let shares = has_shares c.shape_of-shape.result share c.blocks-3.result c.threads-threads.result (length had) c.shape_of-shape.ensures.shape
    refl each many c.threads-threads.ensures.some in
    only_memory {P = IsWithinLimits c.shape_of-shape.result} c.run_workers_open-worked.result c.shape_of-shape.ensures.within worked.shape
    (worked.shared shares) (worked.sole (λ w x t u does. does.1))
