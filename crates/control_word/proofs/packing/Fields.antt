-- The six parts of a cell's word are found again by division.
use Rattle.std.proofs.Common.{◌≡◌, ℕ, ◌+◌, ◌*◌, ◌/◌, ◌%◌, ◌<◌, arith}
use Rattle.control_word.specs.Limits.{block_low, block_high, taken_limit, one_place_low, one_field, one_taken}
use Rattle.control_word.specs.Limits.{one_owned_high, one_place_high}

module _
    (word owned block field taken owned_high block_high' : ℕ)
    (is : word ≡ owned + one_place_low * block + one_field * field + one_taken * taken + one_owned_high * owned_high
    + one_place_high * block_high')
    (owned_fits : owned < block_low)
    (block_fits : block < block_low)
    (field_fits : field < 4)
    (taken_fits : taken < taken_limit)
    (high_fits : owned_high < block_high)
  where
    pub owned_part : word % block_low ≡ owned
    owned_part = omega arith

    pub block_part : word / one_place_low % block_low ≡ block
    block_part = omega arith

    pub field_part : word / one_field % 4 ≡ field
    field_part = omega arith

    pub taken_part : word / one_taken % taken_limit ≡ taken
    taken_part = omega arith

    pub owned_high_part : word / one_owned_high % block_high ≡ owned_high
    owned_high_part = omega arith

    pub block_high_part : word / one_place_high ≡ block_high'
    block_high_part = omega arith

    -- the word with no fund taken
    pub rest_part : word % one_taken + one_owned_high * (word / one_owned_high) + one_taken * taken ≡ word
    rest_part = omega arith

-- equal words have equal parts
pub same_parts : (o b f t x y o' b' f' t' x' y' : ℕ)
    → o < block_low → b < block_low → f < 4 → t < taken_limit → x < block_high
    → o' < block_low → b' < block_low → f' < 4 → t' < taken_limit → x' < block_high
    → o + one_place_low * b + one_field * f + one_taken * t + one_owned_high * x + one_place_high * y
    ≡ o' + one_place_low * b' + one_field * f' + one_taken * t' + one_owned_high * x' + one_place_high * y'
    → (o ≡ o') × (b ≡ b') × (f ≡ f') × (t ≡ t') × (x ≡ x') × (y ≡ y')
same_parts o b f t x y o' b' f' t' x' y' ho hb hf ht hx ho' hb' hf' ht' hx' e =
    (omega arith, omega arith, omega arith, omega arith, omega arith, omega arith)
