-- What the word of a cell tells of the cell, at a step on it.
use Rattle.std.proofs.Common.{◌≡◌, ℕ, ◌+◌, ◌<◌, true, false, List, [], ◌∷◌, get_or, Some, None}
use Rattle.std.proofs.Common.{Option, sym, refl, ap, ◌∙◌, subst, arith}
use Rattle.control_block.proofs.Prelude
use Prelude.{after, block_fits, blocks_of, Cell, cell_bits, cell_busy, cell_of, cells_led}
use Prelude.{CellWord, ClearMember, Compare, Count, Entry, Event, Expired, field_fits, Finish}
use Prelude.{formed, Free, get_elem?, handle, IsBusy, IsCellAt, IsCellWord, IsOpen, Join, kind_in}
use Prelude.{kind_of_free, leads, Leave, Load, Lock, Make, Member, member_busy, Opening}
use Prelude.{opening_of, owned_fits, Owner, Read, Ruled, Same, SeatView, Shape, Share, Shelve}
use Prelude.{shown, some, sound, Split, spot, State, Swap, Unshelve, Visit, WeakLeave, WeakShare}
use Rattle.atomic_table.specs.Table as Table
use Rattle.control_word.proofs.history.Kept.{members_led, owners_led}
use Rattle.control_word.proofs.history.Clearing.{was_made}
use Rattle.control_word.proofs.packing.Cells.{same_cells}
use Rattle.control_word.proofs.funded.Cells.{kept_show_funded}
use Rattle.control_word.proofs.words.Banks.{IsKept, open_kept}
use Rattle.control_word.specs.Events.{kind_of}
use Rattle.control_word.specs.Packing.{block_number, place_block, place_field}
use Rattle.control_word.specs.State.{kind_of_member}
use Rattle.control_word.specs.Words.{cell_at}
use Rattle.control_block.specs.Rule.{members_of}
use Rattle.control_block.proofs.Passage.{held_there, point, ready}

-- cells with one word are one
pub one_cell : (x y : CellWord) → IsCellWord x → IsCellWord y → cell_bits x ≡ cell_bits y → x ≡ y
one_cell x y hx hy e = same_cells x y hx hy e

module _ {V : Type 0} where
  -- the number of shared cells stays
  shared_after : (s : State) (d : ℕ) (a : Event V) → (after s d a).shared ≡ s.shared
  shared_after s d (Make b enabled null fields val) = refl
  shared_after s d (Share h p) = refl
  shared_after s d (Leave h last) = refl
  shared_after s d (Count h n) = refl
  shared_after s d (Expired h x) = refl
  shared_after s d (Read h n) = refl
  shared_after s d (Same c h so) = refl
  shared_after s d (WeakShare o p) = refl
  shared_after s d (WeakLeave h x) = refl
  shared_after s d (Lock h x) = refl
  shared_after s d (ClearMember o m h) = refl
  shared_after s d (Finish o x val) = refl
  shared_after s d (Load c x) = refl
  shared_after s d (Swap (Free c) x y) = refl
  shared_after s d (Swap (Member o m) x y) = refl
  shared_after s d (Compare (Free c) e x y true w) = refl
  shared_after s d (Compare (Member o m) e x y true w) = refl
  shared_after s d (Compare c e x y false w) = refl
  shared_after s d (Visit h x y) = refl
  shared_after s d (Split e amount x y) = refl
  shared_after s d (Join e) = refl
  shared_after s d (Shelve b) = refl
  shared_after s d (Unshelve b) = refl

  pub shared_led : (z : Opening) (h : List (Entry V)) → (leads z h).shared ≡ z.shared_cells
  shared_led z [] = refl
  shared_led z (e ∷ h) = shared_after (leads z h) e.desk e.event ∙ shared_led z h

  module _ (k : Shape) (s : Table.State (Option V) (SeatView V)) (r : Ruled k s) (id : ℕ) (v : SeatView V) (at : get_elem? s.views id ≡ some v)
      (awake : v.view.spent ≡ false) where
    -- the cell is there, and its word is this one
    pub record Opened (c : Cell) (i : ℕ) : Type 0 where
      pub kept : IsKept (leads (opening_of k) r.history) c
      pub there : cell_at (opening_of k) (leads (opening_of k) r.history) c ≡ i
      pub kind : kind_of (leads (opening_of k) r.history) c ≡ kind_in v.shape c

    -- a cell that is open by what the desk has seen is open
    pub is_open : (c : Cell) (i : ℕ) → IsCellAt v c i → IsOpen (leads (opening_of k) r.history) v.view.name c
    is_open (Free c) i cell =
        let shape = r.shapes id v at awake in let n = cells_led (opening_of k) r.history in
        let low : c < k.shared_cells + k.weak_cells = subst (λ y. c < y.shared_cells + y.weak_cells) shape cell.0 in omega arith
    is_open (Member o m) i cell =
        let q = cell.1 in let mine = held_there k s r id v at awake Owner o q.0 q.1 q.2 in (
          (let low : m < members_of k = subst (λ y. m < members_of y) (r.shapes id v at awake) cell.0 in
              let n = members_led (opening_of k) r.history in omega arith),
          (handle Owner (Some o) q.0, (mine.0, refl, refl), refl),
        )

    pub opened : (c : Cell) (i : ℕ) → IsCellAt v c i → Opened c i
    opened (Free c) i cell =
        let z = opening_of k in let shape = r.shapes id v at awake in let n = cells_led z r.history in
        let low : c < k.shared_cells + k.weak_cells = subst (λ y. c < y.shared_cells + y.weak_cells) shape cell.0 in
        record {
          kept = open_kept (opening_of k) (leads (opening_of k) r.history) v.view.name (Free c) (sound (opening_of k) r.history r.stands.stands.legal)
              (is_open (Free c) i cell);
          there = sym (cell.1 ∙ ap (λ y. Rattle.control_word.specs.Layout.cell_place y.blocks c) shape);
          kind = ap (λ n. kind_of_free n c) (shared_led z r.history ∙ ap (λ y. y.shared_cells) (sym shape));
        }
    opened (Member o m) i cell =
        let q = cell.1 in let mine = held_there k s r id v at awake Owner o q.0 q.1 q.2 in
        record {
          kept = open_kept (opening_of k) (leads (opening_of k) r.history) v.view.name (Member o m) (sound (opening_of k) r.history r.stands.stands.legal)
              (is_open (Member o m) i cell);
          there = ap (λ b. spot b (7 + m)) mine.1 ∙ sym q.3;
          kind = ap (λ n. kind_of_member n m)
              (owners_led (opening_of k) r.history ∙ ap (λ y. y.owners) (sym (r.shapes id v at awake)));
        }

    module _ (c : Cell) (i : ℕ) (is : Opened c i) where
      -- the word is the packing of what the cell holds
      pub record Decoded : Type 0 where
        pub taken : ℕ
        pub bits : let t = leads (opening_of k) r.history in get_or s.words i 0 ≡ cell_bits (shown (blocks_of t) (cell_of t c) taken)
        pub valid : let t = leads (opening_of k) r.history in IsCellWord (shown (blocks_of t) (cell_of t c) taken)
        pub bare : (cell_of (leads (opening_of k) r.history) c).object ≡ None → taken ≡ 0
        pub kind : (cell_of (leads (opening_of k) r.history) c).kind ≡ kind_in v.shape c

      pub decoded : Decoded
      decoded =
          let z = opening_of k in let t = kept_show_funded (point k s r id v) v.view.pending c (ready k s r id v at awake v.view.pending refl) is.kept in
          record {
            taken = t.0;
            bits = ap (λ j. get_or s.words j 0) (sym is.there) ∙ t.1.0;
            valid = t.1.1;
            bare = t.2;
            kind = well c is.kept ∙ is.kind;
          }
        where
          well : (d : Cell) → IsKept (leads (opening_of k) r.history) d
              → (cell_of (leads (opening_of k) r.history) d).kind ≡ kind_of (leads (opening_of k) r.history) d
          well (Free d) op = ((formed (opening_of k) r.history r.stands.stands.legal).frees d op).1
          well (Member o m) op = ((formed (opening_of k) r.history r.stands.stands.legal).members o m).1

      -- what the cell holds is counted
      pub cell_keeps : (o : ℕ) → (cell_of (leads (opening_of k) r.history) c).object ≡ Some o → IsBusy (leads (opening_of k) r.history) o
      cell_keeps o e = go c is.kept e
        where
          go : (d : Cell) → IsKept (leads (opening_of k) r.history) d → (cell_of (leads (opening_of k) r.history) d).object ≡ Some o
              → IsBusy (leads (opening_of k) r.history) o
          go (Free d) op e = cell_busy (opening_of k) (leads (opening_of k) r.history) (sound (opening_of k) r.history r.stands.stands.legal) d o op e
          go (Member q m) op e =
              let z = opening_of k in let t = leads z r.history in let fine = sound z r.history r.stands.stands.legal in
              member_busy z t fine q m o (was_made z t q fine (λ u. let a = fine.unmade_free q u in let b = op.1 in omega arith)) op.0 e

      -- a word that is found is what the cell shows
      pub found_is : (d : Decoded) (x : CellWord) → IsCellWord x → get_or s.words i 0 ≡ cell_bits x
          → let t = leads (opening_of k) r.history in x ≡ shown (blocks_of t) (cell_of t c) d.taken
      found_is d x valid bits =
          let t = leads (opening_of k) r.history in one_cell x (shown (blocks_of t) (cell_of t c) d.taken) valid d.valid (sym bits ∙ d.bits)
