-- Words of cells, worked out by hand (own).
use Rattle.std.specs.Prelude.{◌≡◌, ℕ, Option, Some, None}
use Rattle.control_word.specs.declared.place.Block.{Block}
use Rattle.control_word.specs.declared.place.Place.{Place}
use Rattle.control_word.specs.Packing.{cell_bits}

abbrev pub numbered : ℕ → Option Block
numbered n = Some record { 0 = n }

abbrev pub place : ℕ → ℕ → Option Place
place n field = Some record { block = record { 0 = n }; field = field }

-- this cell has this word
abbrev pub HasWord : Option Block → Option Place → ℕ → ℕ → Type 0
HasWord owned place taken word = cell_bits record { owned = owned; place = place; taken = taken } ≡ word

-- of at most 65,535 blocks, and 256 taken
pub record LowRows : Type 0 where
  pub empty : HasWord None None 0 0
  pub bare_place : HasWord None (place 1 0) 0 65536
  pub bare_last_place : HasWord None (place 65535 0) 0 4294901760
  pub own : HasWord (numbered 7) (place 7 2) 0 8590393351
  pub one_taken : HasWord (numbered 7) (place 7 2) 1 25770262535
  pub all_taken : HasWord (numbered 7) (place 7 2) 256 4406636904455
  pub last : HasWord (numbered 65535) (place 65535 3) 0 17179869183
  pub last_taken : HasWord (numbered 65535) (place 65535 3) 256 4415226380287

-- of more
pub record HighRows : Type 0 where
  pub owned : HasWord (numbered 65536) None 0 4503599627370496
  pub bare_place : HasWord None (place 65536 0) 0 288230376151711744
  pub alias : HasWord (numbered 65537) (place 131073 1) 5 580964442125172737
  pub last : HasWord (numbered 4000000) (place 4000000 3) 256 17856776933606426880
