use Rattle.std.proofs.Common.{◌<◌, refl, arith, rules}
use Rattle.shared_handle.proofs.Piles.{some_left}
use Rattle.handle_tests.proofs.parts.clear.Goals as goal

pub clear_next-requires-clause-some : goal.clear_next-requires-clause-some
clear_next-requires-clause-some g c =
    some_left c.args.ending.now c.is_clear.result c.requires.ends.few c.is_clear.ensures.1 c.if-is_clear.false

pub returns-then-is_clear-clause-noted : goal.returns-then-is_clear-clause-noted
returns-then-is_clear-clause-noted g c = λ lt. absurd (let all = c.is_clear.ensures.0 c.if-is_clear.true in omega arith)

pub returns-then-is_clear-clause-endings : goal.returns-then-is_clear-clause-endings
returns-then-is_clear-clause-endings g c = λ b x other ends. record { ends = ends; shape = refl; members = λ m. refl }
