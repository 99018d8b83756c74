-- The order in which keys lie in a trie: that of what they are spread to (own).
use Rattle.std.specs.Prelude.{◌+◌, ◌-◌, ◌*◌, ◌/◌, ◌%◌, ◌^◌, ℕ}

-- the key at a place of that order: 17428512612931826493 is the inverse of the factor that keys are spread by
abbrev pub key_at : ℕ → ℕ
key_at place = place * 17428512612931826493 % 2 ^ 64

-- so many low bits of a place say where keys go below a member of a node of a level
abbrev pub low_bits : ℕ → ℕ
low_bits l = 61 - 3 * l

-- the first place behind those of all keys that go by the same member
abbrev pub place_behind : ℕ → ℕ → ℕ
place_behind place l = place / 2 ^ low_bits l * 2 ^ low_bits l % 2 ^ 64 + 1 * 2 ^ low_bits l % 2 ^ 64
