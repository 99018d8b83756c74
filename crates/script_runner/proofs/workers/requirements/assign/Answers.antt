use Rattle.std.proofs.Common.{◌≡◌, ◌+◌, [], ◌∷◌, length, Some, ap, ◌∙◌, arith, length-append}
use Rattle.script_runner.proofs.Prelude.{HasAssignment, IsNewShare}
use Rattle.std.proofs.lemmas.List.Elements.{All-pop}
use Rattle.script_runner.proofs.Assigning.{gone_then, same_room, zip_turned}
use Rattle.script_runner.proofs.workers.requirements.assign.Goals as goal

pub loop-assignment-preserved : goal.loop-assignment-preserved
loop-assignment-preserved g c =
    let inv = c.loop-assignment.invariant in
    let book = c.args.book.now.id in
    let assignment = c.in-Some.assignment in
    let share = c.in-Some-pop.share in
    let assignments = c.pop.new.self.items in
    let shares = c.pop-in-Some.new.self.items in
    let done = inv.4.0 in
    let popped = c.in-Some.ensures.items in
    let taken = c.in-Some-pop.ensures.items in
    let pushed = c.push_reserved.ensures.items in
    let many = inv.0 in
    let a : length c.loop-assignment.assignments.items ≡ length assignments + 1
    = omega (arith, ap length popped, length-append assignments (assignment ∷ [])) in
    let b : length c.loop-assignment.shares.items ≡ length shares + 1 = omega (arith, ap length taken, length-append shares (share ∷ [])) in
    let room = same_room c.loop-assignment.assignments.items assignments assignment c.loop-assignment.workers.items
    c.push_reserved.new.self.items c.worker_of.result _
    popped pushed inv.2 in
    let capacity = c.push_reserved.ensures.capacity in (
      omega (arith, many, a, b),
      (All-pop (IsNewShare book) _ _ (Some share) taken inv.1).0,
      omega (arith, room, capacity),
      c.pop-in-Some.ensures.capacity ∙ inv.3,
      (
        assignment ∷ done,
        gone_then c.args.assignments.now.items c.loop-assignment.assignments.items assignments done assignment inv.4.1 popped,
        zip_turned (HasAssignment book) assignment done c.loop-assignment.workers.items c.push_reserved.new.self.items c.worker_of.result pushed
            c.worker_of.ensures inv.4.2,
      ),
    )
