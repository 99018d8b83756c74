-- The versions of the language: a script without a header is of version 1, and `version 2 blocks N`
-- is the header of version 2. A version decides numbers alone.
use Rattle.std.specs.Prelude.{ℕ, List, [], ◌∷◌, Result, Ok, Err, codes, nat_lt, if◌then◌else◌}
use Rattle.std.specs.Str.{bytes_eq}
use Rattle.script_text.specs.declared.fault.Cause.{Cause}
use Rattle.script_text.specs.declared.fault.Cause.TheVariants.{BadNumber, BadVersion}
use Rattle.script_text.specs.declared.fault.Cause.TheVariants.{WrongNumberOfWords}
use Rattle.script_text.specs.declared.parts.version.Version.{Version}
use Rattle.script_text.specs.declared.parts.version.Version.TheVariants.{One, Two}
use Rattle.text_lines.specs.Reading.{◌>>=◌}
use Rattle.script_text.specs.Words.{number_at}

-- how many blocks the threads share
abbrev pub blocks_in : Version → ℕ
blocks_in One = 4095
blocks_in (Two blocks) = blocks

-- how many threads a script has at most
abbrev pub most_threads : Version → ℕ
most_threads One = 16
most_threads (Two blocks) = 64

-- the version 2 that has the same blocks
abbrev pub as_two : Version → Version
as_two version = Two (blocks_in version)

-- a number that a header may have, from 64 to 65,535
abbrev pub header_number : ℕ → Result ℕ Cause
header_number n =
    if nat_lt n 64 then Err BadNumber else (if nat_lt 65535 n then Err BadNumber else Ok n)

-- the number of blocks that a word is
unfoldable pub blocks_at : List ℕ → Result ℕ Cause
blocks_at word = number_at word >>= header_number

-- the version that three words name
unfoldable pub version_named : List ℕ → List ℕ → List ℕ → Result Version Cause
version_named number unit blocks =
    if bytes_eq number (codes "2")
    then (if bytes_eq unit (codes "blocks") then (blocks_at blocks >>= λ n. Ok (Two n))
    else Err BadVersion)
    else Err BadVersion

-- the version that a header names, by the words after its first
abbrev pub version_at : List (List ℕ) → Result Version Cause
version_at (number ∷ unit ∷ blocks ∷ []) = version_named number unit blocks
version_at _ = Err WrongNumberOfWords
