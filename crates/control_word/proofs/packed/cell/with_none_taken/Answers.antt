use Rattle.std.proofs.Common.{◌≡◌, ◌*◌, ◌/◌, ◌%◌, bit_and, arith}
use Rattle.std.proofs.lemmas.Nat.Bits.{and_high}
use Rattle.control_word.proofs.packed.cell.with_none_taken.Goals as goal

pub returns : goal.returns
returns c =
    let n = c.args.word in
    let taken : bit_and n 4503582447501312 ≡ (n / 17179869184 % 262144) * 17179869184 = and_high n 18 34 in
    omega arith
