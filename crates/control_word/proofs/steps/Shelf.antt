-- Blocks go to the shelf and come from it: one bit is set, or cleared.
use Rattle.std.proofs.Common.{◌≡◌, ℕ, ◌+◌, ◌/◌, ◌%◌, ◌^◌, ◌<◌, ◌≤◌, Bool, true, false, cond, ◌≢◌}
use Rattle.std.proofs.Common.{List, ◌∷◌, length, get_or, set, bit_and, bit_or, sym, refl, ap, ◌∙◌}
use Rattle.std.proofs.Common.{subst, ⊎_elim, arith, length-set, get_or-set_other, get_or-set_same}
use Rattle.control_word.proofs.Prelude
use Prelude.{after, Asks, bag_size, Bare, bit_at, Block, block_words, cases_eq, cell_spot, Entry}
use Prelude.{entry, Event, Fits, get_elem?, Has, Idle, InShape, IsVacant, leads, Making, Merging}
use Prelude.{more, Opening, owed, Parting, Paying, Pending, put, sees, shelf_place, shelf_spot}
use Prelude.{Shelve, Shows, ShowsShelf, some, spot, Stands, State, Stored, stored, Unshelve, value}
use Prelude.{valued, Values, View, Visiting}
use Rattle.std.proofs.lemmas.Nat.Bits.{bit_at-lt, bit_at-pow_other, bit_at-pow_same, bit_at_and}
use Rattle.std.proofs.lemmas.Nat.Bits.{bit_at_not, bit_at_or}
use Rattle.std.proofs.Math.Pow.{pow-lt}
use Rattle.std.specs.Int.{bit_not, w64}
use Rattle.control_word.proofs.history.Allowances.{allowed}
use Rattle.control_word.proofs.history.Legal.{sound}
use Rattle.control_word.proofs.history.Others.{IsPlain, fits_after, plain_names, plain_visits}
use Rattle.control_word.proofs.history.Soundness.{on_is}
use Rattle.control_word.proofs.lists.Tallies.{put_again, put_other, put_same}
use Rattle.control_word.proofs.views.Teams.{plain_step, still_step}
use Rattle.control_word.proofs.words.Counting.{calm}
use Rattle.control_word.proofs.words.Frames.{spot_fits}
use Rattle.control_word.proofs.words.Payments.{shows_all}
use Rattle.control_word.specs.Layout.{bit_of, shelf_words}
use Rattle.control_word.specs.State.{count, weak}
use Rattle.control_word.specs.Steps.{ShelfShows, Shelves, Unshelves}
use Rattle.control_word.specs.Words.{bank}

-- block b's bit alone becomes x
shelf_set : (z : Opening) (words : List ℕ) (s : State) (r : List Stored) (b n : ℕ) (x : Bool)
    → shelf_spot z b < length words → ShowsShelf z words s → bit_at n (b % 64) ≡ cond x 1 0
    → ((j : ℕ) → j < 64 → j ≢ b % 64 → bit_at n j ≡ bit_at (get_or words (shelf_spot z b) 0) j)
    → ShowsShelf z (set words (shelf_spot z b) n) (record s { stores = r; shelved = put s.shelved b x })
shelf_set z words s r b n x inside shows here else' c lt =
    let k = shelf_spot z b in
    ⊎_elim
    (λ (e : c ≡ b).
    (λ i. bit_at (get_or (set words k n) (shelf_spot z (e i)) 0) (e i % 64))
    ∙ (ap (λ m. bit_at m (b % 64)) (get_or-set_same words k n 0 inside)
    ∙ (here ∙ sym (ap (λ (y : Bool). cond y 1 0) (put_same s.shelved b x c e)))))
    (λ (ne : c ≢ b).
    let still = shows c lt ∙ sym (ap (λ (y : Bool). cond y 1 0) (put_other s.shelved b x c ne)) in
    ⊎_elim
    (λ (q : c / 64 ≡ b / 64).
    let at = ap (λ m. shelf_place z.blocks z.cells m) q in
    ap (λ m. bit_at m (c % 64)) (ap (λ m. get_or (set words k n) m 0) at ∙ get_or-set_same words k n 0 inside)
    ∙ (else' (c % 64) (omega arith) (λ w. ne (omega arith))
    ∙ (ap (λ m. bit_at (get_or words m 0) (c % 64)) (sym at) ∙ still)))
    (λ (q : c / 64 ≢ b / 64).
    ap (λ m. bit_at m (c % 64)) (get_or-set_other words k (shelf_spot z c) n 0 (λ w. q (omega arith))) ∙ still)
    (cases_eq (c / 64) (b / 64)))
    (cases_eq c b)

bit_set : (n j : ℕ) → bit_at (bit_or n (2 ^ j)) j ≡ 1
bit_set n j =
    let a = bit_at_or n (2 ^ j) j in let b = bit_at-pow_same j in let c = bit_at-lt n j in omega arith

bit_set_else : (n j i : ℕ) → i ≢ j → bit_at (bit_or n (2 ^ j)) i ≡ bit_at n i
bit_set_else n j i ne = let a = bit_at_or n (2 ^ j) i in let b = bit_at-pow_other j i ne in omega arith

below : (j : ℕ) → j < 64 → 2 ^ j < 2 ^ 64
below j lt = pow-lt lt

bit_cleared : (n j : ℕ) → j < 64 → bit_at (bit_and n (bit_not w64 (2 ^ j))) j ≡ 0
bit_cleared n j lt =
    let a = bit_at_and n (bit_not w64 (2 ^ j)) j in let b = bit_at_not w64 (2 ^ j) j (below j lt) lt in
    let c = bit_at-pow_same j in omega arith

bit_cleared_else : (n j i : ℕ) → j < 64 → i < 64 → i ≢ j → bit_at (bit_and n (bit_not w64 (2 ^ j))) i ≡ bit_at n i
bit_cleared_else n j i lt low ne =
    let a = bit_at_and n (bit_not w64 (2 ^ j)) i in let b = bit_at_not w64 (2 ^ j) i (below j lt) low in
    let c = bit_at-pow_other j i ne in let d = bit_at-lt n i in omega arith

-- the counts, the members and the funds are as they were
module _ (s : State) (r : List Stored) (f : ℕ → Bool) where
  words_still : (b : ℕ) → block_words (record s { stores = r; shelved = f }) b ≡ block_words s b
  unfolding count weak
  words_still b = refl

  vacant_still : (b : ℕ) → IsVacant s b → IsVacant (record s { stores = r; shelved = f }) b
  unfolding weak
  vacant_still b v = v

  bank_still : (z : Opening) (taken : ℕ → ℕ) (i : ℕ) → bank z (record s { stores = r; shelved = f }) taken i ≡ bank z s taken i
  unfolding bank
  bank_still z taken i = refl

module _ {V : Type 0} where
  module _ (z : Opening) (words : List ℕ) (views : List (View V)) (h : List (Entry V)) (stands : Stands z words views h)
      (i : ℕ) (v : View V) (at : get_elem? views i ≡ some v) (awake : v.spent ≡ false) (idle : v.pending ≡ Idle)
      (b : ℕ) (low : b / 64 < shelf_words z.blocks) (n : ℕ) where
    -- a write of a shelf word leaves the other words
    apart : (c j : ℕ) → InShape z c → j < 16 → spot c j ≢ shelf_spot z b
    apart c j hc lt e = let l = spot_fits z c j hc lt in omega arith

    known : (d : ℕ) (q : Pending V) → Fits words (leads z h) (value z h) d q
        → Fits (set words (shelf_spot z b) n) (leads z h) (value z h) d q
    known d Idle f = tt
    known d (Making c l) f = (
      f.0,
      λ j lt. get_or-set_other words (shelf_spot z b) (spot c.0 (2 + j)) n 0
          (apart c.0 (2 + j) ((sound z h stands.legal).stores d c.0 f.0).1 (omega arith)) ∙ f.1 j lt,
    )
    known d (Paying m o p w x y) f = f
    known d (Visiting o p w x) f = f
    known d (Parting to) f = tt
    known d (Merging other mine others) f = tt

    inside : shelf_spot z b < length words
    inside = let u = stands.shows.sized in omega arith

    moved : (r : List Stored) (f : ℕ → Bool) (seen : List (Entry V))
        → let t : State = record (leads z h) { stores = r; shelved = f } in
        ShowsShelf z (set words (shelf_spot z b) n) t
        → Shows z (set words (shelf_spot z b) n) (owed (set views i (sees v seen))) (more z t (set views i (sees v seen)) stands.taken) t
    moved r f seen shelf =
        let s = leads z h in
        let k = shelf_spot z b in
        let w = sees v seen in
        let t : State = record s { stores = r; shelved = f } in
        shows_all z words (set words k n) (owed views) (more z s views stands.taken) (owed (set views i w))
        (more z t (set views i w) stands.taken) s t (length-set words k n) stands.shows (vacant_still s r f)
        (λ y hy vacant one. get_or-set_other words k (spot y 1) n 0 (apart y 1 hy (omega arith)) ∙ one)
        (λ c j hc lt. let m = spot c j in let q = calm z words views h stands i v at awake idle seen m in
        let q0 = q.0 in let q1 = q.1 in let q2 = q.2 in let a = get_or-set_other words k m n 0 (apart c j hc lt) in
        let y = ap (λ l. get_or l j 0) (words_still s r f c) in let g = bank_still s r f z stands.taken m in omega arith)
        (λ c lt. let m = cell_spot z c in let q = calm z words views h stands i v at awake idle seen m in
        let q0 = q.0 in let q1 = q.1 in let q2 = q.2 in let a = get_or-set_other words k m n 0 (λ e. omega arith) in
        let g = bank_still s r f z stands.taken m in omega arith)
        shelf

module _ {V : Type 0} where
  module _ (z : Opening) (words : List ℕ) (views : List (View V)) (h : List (Entry V)) (stands : Stands z words views h)
      (i : ℕ) (v : View V) (at : get_elem? views i ≡ some v) (awake : v.spent ≡ false) (idle : v.pending ≡ Idle) (b : Block) where
    abbrev was : ℕ
    was = get_or words (shelf_spot z b.0) 0

    -- an event that moves the block between the desk's store and the shelf
    moved_step : (a : Event V) (r : List Stored) (x : Bool) (n : ℕ) → b.0 / 64 < shelf_words z.blocks → IsPlain a → Asks (leads z h) v.name a
        → Values (value z h) a → valued (leads z h) a (value z h) ≡ value z h
        → after (leads z h) v.name a ≡ record (leads z h) { stores = r; shelved = put (leads z h).shelved b.0 x }
        → bit_at n (b.0 % 64) ≡ cond x 1 0
        → ((j : ℕ) → j < 64 → j ≢ b.0 % 64 → bit_at n j ≡ bit_at was j)
        → Stands z (set words (shelf_spot z b.0) n) (set views i (sees v (entry v.name a ∷ h))) (entry v.name a ∷ h)
    moved_step a r x n low plain asks vals stay same here else' =
        let s = leads z h in
        let fine = sound z h stands.legal in
        let k = shelf_spot z b.0 in
        let w = sees v (entry v.name a ∷ h) in
        let inside' = inside z words views h stands i v at awake idle b.0 low n in
        plain_step z words (set words k n) views h i v a Idle stands.taken stands at awake plain tt (λ c. omega arith) asks vals
        (subst (λ t. bag_size t v.name ≤ t.allowance v.name) (sym same) ((allowed z h stands.legal).rooms v.name))
        (subst (λ t. Shows z (set words k n) (owed (set views i w)) (more z t (set views i w) stands.taken) t) (sym same)
        (moved z words views h stands i v at awake idle b.0 low n r (put s.shelved b.0 x) (entry v.name a ∷ h)
        (shelf_set z words s r b.0 n x inside' stands.shows.shelf here else')))
        stands.most stands.blank
        (subst (λ t. Bare z t stands.taken) (sym same) (record { members = stands.bare.members; frees = stands.bare.frees })) tt
        (λ d q ne f. fits_after z s words (set words k n) (value z h) v.name a fine d q (λ y. ne (sym y)) (plain_names a plain d)
        (λ y u. absurd (plain_visits a plain y u))
        (λ c has j lt. get_or-set_other words k (spot c (2 + j)) n 0
        (apart z words views h stands i v at awake idle b.0 low n c (2 + j) (fine.stores d c has).1 (omega arith))) f)

    shelve_step : Has (stored v.name b.0) (leads z h).stores
        → let e = entry v.name (Shelve b) in
        Stands z (set words (shelf_spot z b.0) (bit_or was (bit_of b.0))) (set views i (sees v (e ∷ h))) (e ∷ h)
    shelve_step mine =
        let inside = ((sound z h stands.legal).stores v.name b.0 mine).1 in
        let top = inside.1 in
        moved_step (Shelve b) _ true (bit_or was (bit_of b.0)) (omega arith) tt mine tt refl refl (bit_set was (b.0 % 64))
        (λ j lt ne. bit_set_else was (b.0 % 64) j ne)

    -- the bit was found set
    unshelve_step : b.0 / 64 < shelf_words z.blocks → bit_at was (b.0 % 64) ≡ 1
        → let e = entry v.name (Unshelve b) in
        Stands z (set words (shelf_spot z b.0) (bit_and was (bit_not w64 (bit_of b.0)))) (set views i (sees v (e ∷ h))) (e ∷ h)
    unshelve_step low found =
        let on = stands.shows.shelf b.0 low in
        moved_step (Unshelve b) _ false (bit_and was (bit_not w64 (bit_of b.0))) low tt
        (on_is ((leads z h).shelved b.0) (omega arith)) tt refl refl (bit_cleared was (b.0 % 64) (omega arith))
        (λ j lt ne. bit_cleared_else was (b.0 % 64) j (omega arith) lt ne)

    -- the bit was found clear: another desk has the block, or it was not on the shelf
    missed_step : b.0 / 64 < shelf_words z.blocks → bit_at was (b.0 % 64) ≡ 0
        → Stands z (set words (shelf_spot z b.0) (bit_and was (bit_not w64 (bit_of b.0)))) (set views i (sees v h)) h
    missed_step low found =
        let s = leads z h in
        let k = shelf_spot z b.0 in
        let n = bit_and was (bit_not w64 (bit_of b.0)) in
        let inside' = inside z words views h stands i v at awake idle b.0 low n in
        let on = stands.shows.shelf b.0 low in
        let cleared = bit_cleared was (b.0 % 64) (omega arith) in
        still_step z words (set words k n) views h i v Idle stands.taken stands at awake tt (λ c. omega arith)
        (moved z words views h stands i v at awake idle b.0 low n s.stores s.shelved h
        (subst (λ f. ShowsShelf z (set words k n) (record s { shelved = f })) (put_again s.shelved b.0)
        (shelf_set z words s s.stores b.0 n (s.shelved b.0) inside' stands.shows.shelf (cleared ∙ (sym found ∙ on))
        (λ j lt ne. bit_cleared_else was (b.0 % 64) j (omega arith) lt ne))))
        stands.most stands.blank stands.bare tt
        (λ d q ne f. known z words views h stands i v at awake idle b.0 low n d q f)

module _ {V : Type 0} where
  pub shelf_shows : ShelfShows V Stands
  shelf_shows at p b ready low = ready.stands.shows.shelf b low

  pub shelves' : Shelves V Stands
  shelves' at b ready mine =
      shelve_step at.opening at.words at.views at.history ready.stands at.seat at.view ready.seated ready.awake ready.pending b mine

  pub unshelves' : Unshelves V Stands
  unshelves' at b ready low = (
    unshelve_step at.opening at.words at.views at.history ready.stands at.seat at.view ready.seated ready.awake ready.pending b low,
    missed_step at.opening at.words at.views at.history ready.stands at.seat at.view ready.seated ready.awake ready.pending b low,
  )
