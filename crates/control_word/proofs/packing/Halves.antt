-- The two halves of a count's word, and what a step adds to either.
use Rattle.std.proofs.Common.{◌≡◌, ℕ, ◌+◌, ◌*◌, ◌<◌, arith}
use Rattle.control_word.proofs.Prelude.{funds_of, number_of}
use Rattle.control_word.specs.Limits.{one_fund}

module _
    (word number funds : ℕ)
    (is : word ≡ number + one_fund * funds)
    (fits : number < one_fund)
  where
    pub number_part : number_of word ≡ number
    number_part = omega arith

    pub funds_part : funds_of word ≡ funds
    funds_part = omega arith
