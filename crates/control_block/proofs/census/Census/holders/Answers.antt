use Rattle.std.proofs.Common.{sym, refl, ◌∙◌, true≢false}
use Rattle.control_block.proofs.census.Census.holders.Goals as goal

pub returns-then-not-has-clause-cells : goal.returns-then-not-has-clause-cells
returns-then-not-has-clause-cells g c = λ has. absurd (true≢false (sym (c.has.ensures.1 has) ∙ c.if-not-has.true))

pub returns-then-not-has-clause-owners : goal.returns-then-not-has-clause-owners
returns-then-not-has-clause-owners g c = λ has. absurd (true≢false (sym (c.has.ensures.1 has) ∙ c.if-not-has.true))

pub returns-then-not-has-clause-weaks : goal.returns-then-not-has-clause-weaks
returns-then-not-has-clause-weaks g c = λ has. absurd (true≢false (sym (c.has.ensures.1 has) ∙ c.if-not-has.true))

pub returns-then-not-has-clause-refused : goal.returns-then-not-has-clause-refused
returns-then-not-has-clause-refused g c = tt

pub returns-then-is_err-clause-cells : goal.returns-then-is_err-clause-cells
returns-then-is_err-clause-cells g c = λ _. tt

pub returns-then-is_err-clause-owners : goal.returns-then-is_err-clause-owners
returns-then-is_err-clause-owners g c = λ _. tt

pub returns-then-is_err-clause-weaks : goal.returns-then-is_err-clause-weaks
returns-then-is_err-clause-weaks g c = λ _. tt

pub returns-then-is_err-clause-none : goal.returns-then-is_err-clause-none
returns-then-is_err-clause-none g c = λ _. tt

pub returns-then-is_err-clause-refused : goal.returns-then-is_err-clause-refused
returns-then-is_err-clause-refused g c = refl

pub returns-clause-none : goal.returns-clause-none
returns-clause-none g c = λ none. absurd (none (c.has.ensures.0 c.if-not-has.false))

pub returns-clause-refused : goal.returns-clause-refused
returns-clause-refused g c = tt
