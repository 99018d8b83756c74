use Rattle.std.proofs.Common.{◌≤◌, sym, subst, rules}
use Rattle.script_stepper.proofs.Prelude.{CanBegin, IsWithinLimits, script_shape, Shape}
use Rattle.step_threads.specs.Programs.{parts_of}
use Rattle.script_stepper.proofs.Beginning.{can_begin}
use Rattle.script_stepper.proofs.runs.answers.world_of.Goals as goal

pub unreachable-requires : goal.unreachable-requires
unreachable-requires c =
    let parts = parts_of c.in-Ok.program in
    let limits : IsWithinLimits (script_shape c.args.script.now) = subst IsWithinLimits c.requires.shape c.requires.within in
    let few : (script_shape c.args.script.now).blocks ≤ 65535 = subst (λ (shape : Shape). shape.blocks ≤ 65535) c.requires.shape c.requires.few in
    let begin : CanBegin c.args.shape parts =
    subst (λ (shape : Shape). CanBegin shape parts) (sym c.requires.shape)
    (can_begin c.args.script.now parts limits few c.in-Ok.ensures.calls c.in-Ok.ensures.sound c.in-Ok.ensures.cells) in
    search (rules, begin)
