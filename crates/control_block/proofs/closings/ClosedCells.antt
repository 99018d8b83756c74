-- What the words of cells are where no call is half done.
use Rattle.std.proofs.Common.{◌≡◌, ℕ, ◌+◌, ◌*◌, ◌%◌, ◌<◌, ◌≤◌, false, List, map, slice_index, Some}
use Rattle.std.proofs.Common.{None, Option, sym, refl, ap, ◌∙◌, subst, ⊎_elim, arith}
use Rattle.control_block.proofs.Prelude
use Prelude.{added, adds, blocks_of, cell_busy, cells_led, CensusNow, Entry, get_elem?, Idle}
use Prelude.{InShape, IsBusy, known, leads, member_busy, NumberedHandle, Opening, opening_of, owed}
use Prelude.{owes, owned_bits, paid, pays, Place, Ruled, SeatView, Shape, slot, some, sound, spot}
use Prelude.{TellsCells, View, view_of}
use Rattle.control_word.proofs.funded.Apart.{behind_apart, body_apart}
use Rattle.control_word.proofs.funded.Next.{plain_word}
use Rattle.control_word.specs.Views.{Stands}
use Rattle.atomic_table.specs.Table as Table
use Rattle.control_word.proofs.history.Allowances.{opened}
use Rattle.control_word.proofs.words.Banks.{bank_none}
use Rattle.control_word.proofs.words.Frames.{spot_apart, spot_fits, total_none}
use Rattle.control_word.proofs.words.Funds.{slot_low}
use Rattle.control_word.proofs.words.Members.{member_word}
use Rattle.control_word.specs.Words.{cell_spot, packed, place_bits}
use Rattle.control_block.specs.Holders.{owned_by}
use Rattle.control_block.specs.Rule.{members_of}
use Rattle.control_block.proofs.closings.Closing.{all_idle, all_seen}
use Rattle.control_word.specs.Limits.{most_blocks, most_members, one_taken, taken_limit}
use Rattle.control_word.specs.Packing.{owned_in, cell_bits}
use Rattle.control_word.specs.Handles.{IsPointer, handle, rank}
use Rattle.control_word.specs.Words.{shown}
use Rattle.control_word.proofs.history.Formation.{formed}
use Rattle.control_word.proofs.words.Decoding.{cell_shown}

-- the owned block in a cell's word is that of the handle's object
owned_of : (f : ℕ → ℕ) (h : NumberedHandle) (t : ℕ) → t < taken_limit → IsPointer h.place
    → ((r : ℕ) → h.object ≡ Some r → f r ≤ most_blocks)
    → owned_in (packed f h + one_taken * t) ≡ rank f h
owned_of f h t few formed fit =
    ap owned_in (cell_shown f h t) ∙ go h.object h.place formed fit
  where
    go : (o : Option ℕ) (p : Option Place) → IsPointer p → ((r : ℕ) → o ≡ Some r → f r ≤ most_blocks)
        → owned_in (cell_bits (shown f (handle h.kind o p) t)) ≡ rank f (handle h.kind o p)
    go None None formed fit = omega (arith, few)
    go None (Some p) formed fit = let b = formed.1 in let c = formed.2 in omega (arith, few, b, c)
    go (Some o) None formed fit = let a = fit o refl in omega (arith, few, a)
    go (Some o) (Some p) formed fit = let a = fit o refl in let b = formed.1 in let c = formed.2 in omega (arith, few, a, b, c)

module _ {V : Type 0} where
  module _ (z : Opening) (words : List ℕ) (views : List (View V)) (h : List (Entry V)) (stands : Stands z words views h)
      (idle : (i : ℕ) (v : View V) → get_elem? views i ≡ some v → v.pending ≡ Idle) where
    none_half : (k : ℕ) → (owed views k ≡ 0) × (added views k ≡ 0) × (paid views k ≡ 0)
    none_half k = (
      total_none (λ (v : View V). owes v.pending k) views (λ i v e. ap (λ q. owes q k) (idle i v e)),
      total_none (λ (v : View V). adds v.pending k) views (λ i v e. ap (λ q. adds q k) (idle i v e)),
      total_none (λ (v : View V). pays v.pending k) views (λ i v e. ap (λ q. pays q k) (idle i v e)),
    )

    busy_fits : (r : ℕ) → IsBusy (leads z h) r → blocks_of (leads z h) r ≤ most_blocks
    busy_fits r busy =
        let p = ((sound z h stands.legal).placed r busy).1 in let l = (opened z h stands.legal).limits.0 in let p1 = p.1 in omega arith

    pub free_word : (c : ℕ) → c < z.cells → owned_in (slice_index words (cell_spot z c)) ≡ owned_by (leads z h) ((leads z h).cell c)
    free_word c lt =
        let s = leads z h in let fine = sound z h stands.legal in let k = cell_spot z c in
        let none = none_half k in let n1 = none.1 in let n2 = none.2 in
        let bank = bank_none z s fine stands.taken k
        (λ m o busy e. let p = (fine.placed o busy).1 in let l = slot_low m in
        let f = spot_fits z (s.object o).block (slot m) p (omega arith) in omega arith) in
        let word : slice_index words k ≡ packed (blocks_of s) (s.cell c) + one_taken * stands.taken k = let w = stands.shows.free c lt in omega arith in
        ap owned_in word
        ∙ owned_of (blocks_of s) (s.cell c) (stands.taken k) (let q = stands.most k in omega arith)
        ((formed z h stands.legal).frees c (let q = cells_led z h in omega arith)).0.0
        (λ r e. busy_fits r (cell_busy z s fine c r (let q = cells_led z h in omega arith) e))

    pub member_at : (b m : ℕ) → InShape z b → m < most_members
        → owned_in (slice_index words (spot b (7 + m))) ≡ owned_by (leads z h) (((leads z h).object ((leads z h).latest b)).member m)
    member_at b m inside lt =
        let s = leads z h in let fine = sound z h stands.legal in let k = spot b (7 + m) in let o = s.latest b in let x = (s.object o).member m in
        let none = none_half k in let n0 = none.0 in let n1 = none.1 in let n2 = none.2 in
        let bank = bank_none z s fine stands.taken k
        (λ j q busy e. let p = (fine.placed q busy).1 in let l = slot_low j in
        let t = spot_apart b (7 + m) (s.object q).block (slot j) inside.0 p.0 (omega arith) (omega arith) e in let t1 = t.1 in omega arith) in
        let same = member_word s b o m lt refl in
        let word : slice_index words k ≡ packed (blocks_of s) x + one_taken * stands.taken k =
        ⊎_elim (λ l. absurd (let l1 = l.1 in omega arith)) (λ t. omega arith) (stands.shows.blocks b (7 + m) inside (omega arith)) in
        ap owned_in word
        ∙ owned_of (blocks_of s) x (stands.taken k) (let q = stands.most k in omega arith) ((formed z h stands.legal).members o m).0.0
        (λ r e. busy_fits r (member_busy z s fine o m r (let q = fine.latest_made b in omega arith) lt e))

abbrev pub census_of : Shape → List ℕ → CensusNow
census_of k l = record { blocks = k.blocks; members = members_of k; owners = k.owners; shared_cells = k.shared_cells; weak_cells = k.weak_cells; words = l }

module _ {V : Type 0} where
  module _ (k : Shape) (s : Table.State (Rattle.std.specs.Prelude.Option V) (SeatView V)) (r : Ruled k s) (id : ℕ) (v : SeatView V)
      (at : get_elem? s.views id ≡ some v)
      (awake : v.view.spent ≡ false) (idle : v.view.pending ≡ Idle) (whole : (known v).allowance v.view.name ≡ v.shape.allowance) where
    told_by_words : TellsCells (leads (opening_of k) r.history) (census_of k s.words)
    told_by_words =
        let z = opening_of k in let h = r.history in let none = all_idle k s r id v at awake idle whole in
        let fine = sound z h r.stands.stands.legal in
        record {
          frees = λ i lt. ap owned_in (plain_word z s.words (map view_of s.views) h r.stands (cell_spot z i)
              (behind_apart z (leads z h) fine (cell_spot z i) (omega arith)))
              ∙ free_word z r.stands.bare (map view_of s.views) h r.stands.stands none i lt;
          members = λ b m has lt. let n = r.limits.members.2 in
              ap owned_in (plain_word z s.words (map view_of s.views) h r.stands (spot b (7 + m))
              (body_apart z (leads z h) fine b (7 + m) has.0 (omega arith) (omega arith)))
              ∙ member_at z r.stands.bare (map view_of s.views) h r.stands.stands none b m has (omega arith);
        }

    -- what the cells hold where a sole desk closes its domain
    pub tells_cells : (z : Shape) (l : List ℕ) → k ≡ z → s.words ≡ l → TellsCells (known v) (census_of z l)
    tells_cells z l shape words =
        subst (λ y. TellsCells (known v) (census_of y l)) shape
        (subst (λ y. TellsCells (known v) (census_of k y)) words
        (subst (λ y. TellsCells y (census_of k s.words)) (sym (all_seen k s r id v at awake idle whole)) told_by_words))
