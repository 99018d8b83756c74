-- What a sink takes.
use Rattle.std.specs.Prelude.{◌≡◌, ℕ, ◌++◌, ◌==◌, ◌&&◌, Bool, true, List, length, Option, Result}
use Rattle.std.specs.Prelude.{Ok, Err, nat_lt}
use Rattle.std.specs.Io.KnownBytes.{Appends}

-- an error, or 0 bytes taken of some
abbrev pub write_fails : {E : Type 0} → Result ℕ E → List ℕ → Bool
write_fails (Ok n) bytes = n == 0 && nat_lt 0 (length bytes)
write_fails (Err e) bytes = true

-- known bytes grow by a beginning of bs
pub record AppendsBeginning (old new : Option (List ℕ)) (bs : List ℕ) : Type 0 where
  pub front : List ℕ
  pub rest : List ℕ
  pub text : bs ≡ front ++ rest
  pub took : Appends old new front

-- the text was taken, or a beginning of it where a write failed
abbrev pub IsWritten : {A E : Type 0} → List ℕ → Result A E → Option (List ℕ) → Option (List ℕ) → Type 0
IsWritten text (Ok x) old new = Appends old new text
IsWritten text (Err e) old new = AppendsBeginning old new text
