-- A script's world is within the limits.
use Rattle.std.proofs.Common.{◌≡◌, ℕ, ◌+◌, ◌*◌, ◌/◌, ◌%◌, ◌<◌, ◌≤◌, List, length, All, refl, ap, ◌∙◌}
use Rattle.std.proofs.Common.{div-add-mod', arith}
use Rattle.script_stepper.proofs.Prelude.{CanBegin, IsWithinLimits, length-map, Part, program_in}
use Rattle.script_stepper.proofs.Prelude.{script_shape, ScriptView, Shape, shape_for}
use Rattle.std.proofs.Math.Nat.{mod-lt}
use Rattle.step_threads.specs.Programs.{AllHaveCells, IsProgram}
use Rattle.script_text.specs.Scripts.{HasTextCells, part_in}

-- so many blocks, of which each of the threads has the same number
pub shape_fits : (blocks threads : ℕ) → 64 ≤ blocks → blocks ≤ 65535 → 1 ≤ threads → threads ≤ 64
    → IsWithinLimits (shape_for blocks threads)
shape_fits blocks threads least most some many =
    let whole : blocks / threads * threads + blocks % threads ≡ blocks = div-add-mod' blocks threads in
    let rest : blocks % threads < threads = mod-lt blocks some in
    record {
      some_block = omega (arith, whole, rest, least, many);
      blocks = omega (arith, whole, most);
      members = (omega arith, omega arith, omega arith);
      cells = omega arith;
      some_handle = omega arith;
      allowance = omega arith;
      owners_room = omega (arith, whole, most);
      weaks_room = omega (arith, whole, most);
    }

-- they are no more than there are
pub few_blocks : (blocks threads : ℕ) → blocks ≤ 65535 → blocks / threads * threads ≤ 65535
few_blocks blocks threads most =
    let whole : blocks / threads * threads + blocks % threads ≡ blocks = div-add-mod' blocks threads in omega (arith, whole, most)

-- a program with all the cells that it names in shapes with those of texts can begin
pub can_begin : (script : ScriptView) (parts : List Part) → IsWithinLimits (script_shape script)
    → (script_shape script).blocks ≤ 65535 → parts ≡ program_in script.threads → IsProgram parts
    → ((shape : Shape) → HasTextCells shape → All (AllHaveCells shape) parts) → CanBegin (script_shape script) parts
can_begin script parts limits few is program cells =
    let size : length parts ≡ length script.threads = ap length is ∙ length-map script.threads part_in in
    let many : length script.threads ≤ 64 = omega (arith, size, program.actors) in
    record {
      limits = limits;
      blocks = few;
      free_cells = omega arith;
      members = (refl, refl);
      program = program;
      enough = omega (arith, size, many);
      cells = cells (script_shape script) (omega arith, omega arith);
    }
