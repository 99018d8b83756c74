-- What the word of a cell unpacks to.
use Rattle.std.proofs.Common.{◌≡◌, ℕ, ◌+◌, ◌*◌, ◌<◌, ◌≤◌, false, List, get_or, IfSome, Some, None}
use Rattle.std.proofs.Common.{Option, refl, ◌∙◌, arith}
use Rattle.control_word.proofs.Prelude
use Prelude.{block_of, blocks_of, Cell, cell_at, cell_bits, cell_of, Entry, Free, get_elem?}
use Prelude.{handle, IsBlock, IsCellWord, IsFormed, IsPlace, IsPointer, Kind, leads, Member}
use Prelude.{NumberedHandle, Opening, Place, shown, some, Stands, State, View}
use Rattle.control_word.proofs.history.Allowances.{opened}
use Rattle.control_word.proofs.history.Clearing.{was_made}
use Rattle.control_word.proofs.history.Formation.{formed}
use Rattle.control_word.proofs.history.Legal.{sound}
use Rattle.control_word.proofs.history.Soundness.{IsBusy, Sound}
use Rattle.control_word.proofs.words.Banks.{IsKept}
use Rattle.control_word.proofs.words.CellWords.{cell_read}
use Rattle.control_word.proofs.words.Funds.{cell_busy, member_busy}
use Rattle.control_word.proofs.packing.Cells.{field_fits, owned_fits as owned_limit}
use Rattle.control_word.proofs.packing.Fields.{rest_part, taken_part}
use Rattle.control_word.specs.Packing.{block_number, high_part, low_part, place_block, place_field, taken_in, without_taken}
use Rattle.control_word.specs.Words.{packed}
use Rattle.control_word.specs.Limits.{most_blocks, cell_funds, one_taken}

shown_parts : (block : ℕ → ℕ) (k : Kind) (o : Option ℕ) (p : Option Place) (t : ℕ)
    → packed block (handle k o p) + one_taken * t ≡ cell_bits (shown block (handle k o p) t)
unfolding packed
shown_parts block k None None t = omega arith
shown_parts block k None (Some p) t = omega arith
shown_parts block k (Some o) None t = omega arith
shown_parts block k (Some o) (Some p) t = omega arith

-- a cell's word is that of what it shows
pub cell_shown : (block : ℕ → ℕ) (h : NumberedHandle) (t : ℕ) → packed block h + one_taken * t ≡ cell_bits (shown block h t)
cell_shown block h t = shown_parts block h.kind h.object h.place t

owned_fits : (block : ℕ → ℕ) (o : Option ℕ) → ((r : ℕ) → o ≡ Some r → (1 ≤ block r) × (block r ≤ most_blocks))
    → IfSome (block_of block o) IsBlock
owned_fits block None f = tt
owned_fits block (Some o) f = let t = f o refl in (omega arith, t.1)

place_fits : (p : Option Place) → IsPointer p → IfSome p IsPlace
place_fits None f = tt
place_fits (Some p) f = let a = f.0 in let b = f.2 in ((omega arith, f.1), omega arith)

pub shown_fits : (block : ℕ → ℕ) (h : NumberedHandle) (t : ℕ) → IsFormed h
    → ((r : ℕ) → h.object ≡ Some r → (1 ≤ block r) × (block r ≤ most_blocks)) → t ≤ cell_funds
    → IsCellWord (shown block h t)
shown_fits block h t formed blocks few = record { owned = owned_fits block h.object blocks; place = place_fits h.place formed.0; taken = omega arith }

-- what a cell holds is counted
pub kept_busy : (z : Opening) (s : State) → Sound z s → (c : Cell) → IsKept s c → (r : ℕ) → (cell_of s c).object ≡ Some r → IsBusy s r
kept_busy z s fine (Free d) kept r e = cell_busy z s fine d r kept e
kept_busy z s fine (Member o m) kept r e =
    let made = was_made z s o fine (λ u. let t = fine.unmade_free o u in let b = kept.1 in omega arith) in
    member_busy z s fine o m r made kept.0 e

module _ {V : Type 0} where
  module _ (z : Opening) (words : List ℕ) (views : List (View V)) (h : List (Entry V)) (stands : Stands z words views h)
      (i : ℕ) (v : View V) (at : get_elem? views i ≡ some v) (awake : v.spent ≡ false) (c : Cell) (kept : IsKept (leads z h) c) where
    -- the word of a cell is the packing of the cell's handle, and of how many funds were taken
    pub cell_decodes : let s = leads z h in let k = cell_at z s c in let x = shown (blocks_of s) (cell_of s c) (stands.taken k) in
        (get_or words k 0 ≡ cell_bits x) × IsCellWord x
    cell_decodes = (
      cell_read z words views h stands i v at awake c kept
          ∙ cell_shown (blocks_of s) (cell_of s c) (stands.taken k),
      shown_fits (blocks_of s) (cell_of s c) (stands.taken k) (well c kept) (there c kept) (stands.most k),
    )
      where
        s : State
        s = leads z h

        k : ℕ
        k = cell_at z (leads z h) c

        fine : Sound z (leads z h)
        fine = sound z h stands.legal

        inside : (r : ℕ) → IsBusy (leads z h) r → (1 ≤ blocks_of (leads z h) r) × (blocks_of (leads z h) r ≤ most_blocks)
        inside r busy = let p = (fine.placed r busy).1 in let l = (opened z h stands.legal).limits.0 in (p.0, omega arith)

        well : (d : Cell) → IsKept (leads z h) d → IsFormed (cell_of (leads z h) d)
        well (Free d) op = ((formed z h stands.legal).frees d op).0
        well (Member o m) op = ((formed z h stands.legal).members o m).0

        there : (d : Cell) → IsKept (leads z h) d → (r : ℕ) → (cell_of (leads z h) d).object ≡ Some r
            → (1 ≤ blocks_of (leads z h) r) × (blocks_of (leads z h) r ≤ most_blocks)
        there d op r e = inside r (kept_busy z (leads z h) fine d op r e)

    -- how many funds were taken shows in the word, and the rest of it is the handle
    pub cell_taken : let s = leads z h in let k = cell_at z s c in
        (taken_in (get_or words k 0) ≡ stands.taken k) × (without_taken (get_or words k 0) ≡ packed (blocks_of s) (cell_of s c))
    cell_taken =
        let s = leads z h in
        let k = cell_at z s c in
        let x = shown (blocks_of s) (cell_of s c) (stands.taken k) in
        let is = cell_decodes.0 in
        let fits = cell_decodes.1 in
        let owned = block_number x.owned in
        let block = place_block x.place in
        let a = owned_limit x.owned fits.owned in
        let b = field_fits x.place fits.place in
        let c' = fits.taken in
        let read = cell_read z words views h stands i v at awake c kept in
        let part = taken_part (get_or words k 0) (low_part owned) (low_part block) (place_field x.place) x.taken (high_part owned) (high_part block) is
        (omega arith) (omega arith) b c' (omega arith) in
        let rest = rest_part (get_or words k 0) (low_part owned) (low_part block) (place_field x.place) x.taken (high_part owned) (high_part block) is
        (omega arith) (omega arith) b c' (omega arith) in (part, omega arith)

    -- whether all funds were taken
    pub taken_left : taken_in (get_or words (cell_at z (leads z h) c) 0) < cell_funds → stands.taken (cell_at z (leads z h) c) < cell_funds
    taken_left lt = let t = cell_taken.0 in omega arith
