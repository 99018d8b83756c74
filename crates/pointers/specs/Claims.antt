-- A claim on an object, by what is known of its handle.
use Rattle.std.specs.Prelude.{ℕ, Option, None, Some}
use denote.Ref.{Bor}
use Rattle.pointers.specs.declared.known.Known.{Known}

-- where it stands among all of its desk, and what it says
pub record ClaimNow (V : Type 0) : Type 0 where
  pub at : ℕ
  pub known : Known V

-- what is known of a claim that is borrowed, if there is one
abbrev pub known_by : {V : Type 0} → Option (Bor (ClaimNow V)) → Option (Known V)
known_by None = None
known_by (Some c) = Some c.now.known
