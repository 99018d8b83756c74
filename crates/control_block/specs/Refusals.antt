-- When a make is refused, and why.
use Rattle.std.specs.Prelude.{◌≡◌, ◌⊎◌, Result, Ok, Err}
use Rattle.control_word.specs.declared.refusal.Refusal.TheVariants.{Full, Limit}
use Rattle.control_word.specs.declared.refusal.Refused.{Refused}

-- `Limit` just where the desk is at its allowance, and else `Full` just where its store is empty (own)
abbrev pub IsFullOrLimit : {T V : Type 0} → Type 0 → Type 0 → Result T (Refused V) → Type 0
IsFullOrLimit limit empty (Ok b) = (limit → ⊥) × (empty → ⊥)
IsFullOrLimit limit empty (Err r) = ((r.why ≡ Limit) × limit) ⊎ ((r.why ≡ Full) × (limit → ⊥) × empty)
