-- What the word of a cell says of the cell, and what steps on it do.
use Rattle.std.proofs.Common.{◌≡◌, ℕ, ◌+◌, ◌*◌, ◌<◌, ◌≤◌, IfSome, Some, None, Option, refl, arith}
use Rattle.control_word.proofs.Prelude.{Block, cell_bits, IsBlock, IsCellWord, IsPlace, Place}
use Rattle.control_word.specs.Packing.{block_number, high_part, low_part, place_block, place_field, taken_in}
use Rattle.control_word.proofs.packing.Fields.{same_parts, taken_part}
use Rattle.control_word.specs.declared.packed.cell.CellWord.{CellWord}
use Rattle.control_word.specs.Limits.{most_blocks, block_high, one_taken}

-- the parts are within their widths
pub owned_fits : (b : Option Block) → IfSome b IsBlock → block_number b ≤ most_blocks
owned_fits None h = omega arith
owned_fits (Some b) h = omega arith

pub block_fits : (p : Option Place) → IfSome p IsPlace → place_block p ≤ most_blocks
block_fits None h = omega arith
block_fits (Some p) h = omega arith

pub field_fits : (p : Option Place) → IfSome p IsPlace → place_field p < 4
field_fits None h = omega arith
field_fits (Some p) h = omega arith

-- a block is known by its number
pub same_block : (b d : Option Block)
    → IfSome b IsBlock → IfSome d IsBlock → block_number b ≡ block_number d → b ≡ d
same_block b d hb hd e = grind arith

-- a place by its block and field
pub same_place : (p q : Option Place)
    → IfSome p IsPlace → IfSome q IsPlace
    → place_block p ≡ place_block q → place_field p ≡ place_field q → p ≡ q
same_place p q hp hq eb ef = grind arith

-- the two parts of a block's number tell it
pub same_number : (n m : ℕ) → low_part n ≡ low_part m → high_part n ≡ high_part m → n ≡ m
same_number n m e f = omega arith

-- a block's number has six bits in its high part
pub high_fits : (n : ℕ) → n ≤ most_blocks → high_part n < block_high
high_fits n le = omega arith

-- a cell's word is a word
pub cell_bits_fit : (x : CellWord) → IsCellWord x → cell_bits x < 18446744073709551616
cell_bits_fit x h =
    let o = owned_fits x.owned h.owned in
    let b = block_fits x.place h.place in
    let f = field_fits x.place h.place in
    let t = h.taken in
    omega arith

-- a refill takes off all that was taken
pub none_taken : (x : CellWord)
    → cell_bits (record x { taken = 0 }) + one_taken * x.taken ≡ cell_bits x
none_taken x = omega arith

-- a cell's word tells how many funds were taken
pub cell_taken_in : (x : CellWord) → IsCellWord x → taken_in (cell_bits x) ≡ x.taken
cell_taken_in x h =
    let o = block_number x.owned in
    let b = place_block x.place in
    let o' = owned_fits x.owned h.owned in
    let f = field_fits x.place h.place in
    taken_part (cell_bits x) (low_part o) (low_part b) (place_field x.place) x.taken (high_part o) (high_part b) refl (omega arith) (omega arith) f
    h.taken (omega arith)

-- cells with one word are one
pub same_cells : (x y : CellWord) → IsCellWord x → IsCellWord y → cell_bits x ≡ cell_bits y → x ≡ y
same_cells x y hx hy e =
    let o = block_number x.owned in
    let b = place_block x.place in
    let q = block_number y.owned in
    let d = place_block y.place in
    let a0 = owned_fits x.owned hx.owned in
    let a1 = owned_fits y.owned hy.owned in
    let p = same_parts (low_part o) (low_part b) (place_field x.place) x.taken (high_part o) (high_part b)
    (low_part q) (low_part d) (place_field y.place) y.taken (high_part q) (high_part d)
    (omega arith) (omega arith) (field_fits x.place hx.place) hx.taken (omega arith)
    (omega arith) (omega arith) (field_fits y.place hy.place) hy.taken (omega arith) e in
    let r = same_block x.owned y.owned hx.owned hy.owned (same_number o q p.0 p.4) in
    let s = same_place x.place y.place hx.place hy.place (same_number b d p.1 p.5) p.2 in
    let t = p.3 in λ j. record { owned = r j; place = s j; taken = t j }
